use Rattle.model.specs.declared.views.ContentsView.{ContentsView}
use Rattle.model.specs.declared.views.ContentsView.TheVariants.{Instance, Array}
use Rattle.model.specs.declared.views.ThreadState.{ThreadState}
use Rattle.model.specs.declared.views.ThreadState.TheVariants.{Live, Ended}
use Rattle.model.specs.Worlds.{Contents, Thread}
use Rattle.model.specs.Worlds.Contents.{Instance as InstanceOf, Array as ArrayOf}
use Rattle.model.specs.Worlds.Thread.{Live as LiveThread, Ended as EndedThread}

-- the thread of the ideal world that a view of a thread shows
abbrev pub thread_in : ThreadState → Thread
thread_in (Live frames) = LiveThread frames.items
thread_in (Ended by) = EndedThread by

-- what the object of the ideal world holds that a view of an object shows
abbrev pub contents_in : ContentsView → Contents
contents_in (Instance class fields) = InstanceOf class fields.items
contents_in (Array element values) = ArrayOf element values.items
