use Rattle.model.specs.Worlds.{Thread}
use Rattle.model.specs.Worlds.Thread.{Live as LiveThread, Ended as EndedThread}
use Rattle.ideal_run.specs.declared.worlds.ThreadState.{ThreadState}
use Rattle.ideal_run.specs.declared.worlds.ThreadState.TheVariants.{Live, Ended}

-- the thread of the ideal world
abbrev pub thread_in : ThreadState → Thread
thread_in (Live frames) = LiveThread frames.items
thread_in (Ended by) = EndedThread by
