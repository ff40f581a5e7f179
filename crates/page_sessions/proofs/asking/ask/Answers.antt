use Rattle.std.proofs.Common.{◌≡◌, List, ap, codes, refl, ◌∙◌}
use Rattle.std.specs.Prelude.{slice_get}
use Rattle.debug_texts.specs.Answers.{fields_text}
use Rattle.debugger.specs.Breakpoints.{Breakpoints}
use Rattle.debugger.specs.Sessions.{debugged}
use Rattle.debugger.proofs.Carried.{told_carries, written_carries}
use Rattle.model.specs.JournalTexts.{journal_text}
use Rattle.model.specs.Observers.{ideal, output_of}
use Rattle.page_texts.specs.declared.requests.Request.TheVariants.{Rounds, State, Threads, Held, Statics, Methods, Rows}
use Rattle.page_texts.specs.declared.requests.Request.TheVariants.{Lists, Listing, Output, Journal}
use Rattle.page_texts.specs.Shown.{classes_lines, rounds_text, rows_text, whole_text}
use Rattle.page_sessions.specs.Playing.{Asks}
use Rattle.page_sessions.specs.Texts.{helds_text, listing_text, state_text, threads_text, world_lists_text}
use Rattle.scheduler.specs.Rounds.{after_rounds, rounds_answer, rounds_left}
use Rattle.page_sessions.proofs.asking.ask.Goals as goal

pub returns-in-Rounds-clause-carried : goal.returns-in-Rounds-clause-carried
returns-in-Rounds-clause-carried g c =
    let v = c.args.world.now in
    let made = c.make_rounds in
    let n = c.in-Rounds.rounds in
    let gc = c.in-Rounds.gc in
    λ bs. rw c.in-Rounds.is
    (written_carries (Asks (debugged v bs) (Rounds n gc)) made.result (debugged v bs) (debugged made.new.world bs)
    (g.S.Sink.contents c.args.sink.now) (g.S.Sink.contents made.new.sink)
    (rounds_text (rounds_left v 0 gc n) (rounds_answer v 0 gc n)) (ap (λ w. debugged w bs) made.ensures.world, refl)
    made.ensures.told)

pub returns-in-State-clause-carried : goal.returns-in-State-clause-carried
returns-in-State-clause-carried g c = λ bs.
    let s = debugged c.args.world.now bs in
    let made = c.put_made in
    let text = state_text s.world in
    rw c.in-State.is
    (told_carries (Asks s (State)) made.result s (g.S.Sink.contents c.args.sink.now) (g.S.Sink.contents made.new.sink)
    text (refl, refl) (made.ensures.told text c.state_of.ensures))

pub returns-in-Threads-clause-carried : goal.returns-in-Threads-clause-carried
returns-in-Threads-clause-carried g c = λ bs.
    let s = debugged c.args.world.now bs in
    let made = c.put_made-in-Threads in
    let text = threads_text s.world in
    rw c.in-Threads.is
    (told_carries (Asks s (Threads)) made.result s (g.S.Sink.contents c.args.sink.now) (g.S.Sink.contents made.new.sink)
    text (refl, refl) (made.ensures.told text c.threads_of.ensures))

pub returns-in-Held-clause-carried : goal.returns-in-Held-clause-carried
returns-in-Held-clause-carried g c = λ bs.
    let s = debugged c.args.world.now bs in
    let made = c.put_made-in-Held in
    let text = helds_text s.world in
    rw c.in-Held.is
    (told_carries (Asks s (Held)) made.result s (g.S.Sink.contents c.args.sink.now) (g.S.Sink.contents made.new.sink)
    text (refl, refl) (made.ensures.told text c.held_of.ensures))

pub returns-in-Lists-clause-carried : goal.returns-in-Lists-clause-carried
returns-in-Lists-clause-carried g c = λ bs.
    let s = debugged c.args.world.now bs in
    let made = c.put_made-in-Lists in
    let text = world_lists_text s.world in
    rw c.in-Lists.is
    (told_carries (Asks s (Lists)) made.result s (g.S.Sink.contents c.args.sink.now) (g.S.Sink.contents made.new.sink)
    text (refl, refl) (made.ensures.told text c.lists_of.ensures))

pub returns-in-Statics-clause-carried : goal.returns-in-Statics-clause-carried
returns-in-Statics-clause-carried g c = λ bs.
    let s = debugged c.args.world.now bs in
    let made = c.put_made-in-Statics in
    let text = fields_text (ideal s.world).statics.fields in
    rw c.in-Statics.is
    (told_carries (Asks s (Statics)) made.result s (g.S.Sink.contents c.args.sink.now) (g.S.Sink.contents made.new.sink)
    text (refl, refl) (made.ensures.told text c.statics_of.ensures))

pub returns-in-Methods-clause-carried : goal.returns-in-Methods-clause-carried
returns-in-Methods-clause-carried g c = λ bs.
    let s = debugged c.args.world.now bs in
    let made = c.put_made-in-Methods in
    let text = classes_lines s.world.program in
    rw c.in-Methods.is
    (told_carries (Asks s (Methods)) made.result s (g.S.Sink.contents c.args.sink.now) (g.S.Sink.contents made.new.sink)
    text (refl, refl) (made.ensures.told text c.methods_of.ensures))

pub returns-in-Rows-clause-carried : goal.returns-in-Rows-clause-carried
returns-in-Rows-clause-carried g c = λ bs.
    let s = debugged c.args.world.now bs in
    let made = c.put_made-in-Rows in
    let text = rows_text s.world.journal.rows c.in-Rows.first c.in-Rows.count in
    rw c.in-Rows.is
    (told_carries (Asks s (Rows c.in-Rows.first c.in-Rows.count)) made.result s (g.S.Sink.contents c.args.sink.now) (g.S.Sink.contents made.new.sink)
    text (refl, refl) (made.ensures.told text c.rows_of.ensures))

pub returns-in-Listing-clause-carried : goal.returns-in-Listing-clause-carried
returns-in-Listing-clause-carried g c = λ bs.
    let s = debugged c.args.world.now bs in
    let made = c.put_made-in-Listing in
    let text = listing_text (slice_get s.world.program c.in-Listing.class) in
    rw c.in-Listing.is
    (told_carries (Asks s (Listing c.in-Listing.class)) made.result s (g.S.Sink.contents c.args.sink.now) (g.S.Sink.contents made.new.sink)
    text (refl, refl) (made.ensures.told text c.listing_of.ensures))

pub returns-in-Explore-clause-carried : goal.returns-in-Explore-clause-carried
returns-in-Explore-clause-carried g c = λ bs. rw c.in-Explore.is (c.tell_exploration.ensures.carried bs)

pub returns-in-Output-clause-carried : goal.returns-in-Output-clause-carried
returns-in-Output-clause-carried g c = λ bs.
    let s = debugged c.args.world.now bs in
    let made = c.put_made-in-Output in
    let text = whole_text (codes "output") (output_of s.world) in
    rw c.in-Output.is
    (told_carries (Asks s (Output)) made.result s (g.S.Sink.contents c.args.sink.now) (g.S.Sink.contents made.new.sink)
    text (refl, refl) (made.ensures.told text c.output_of.ensures))

pub returns-in-Journal-clause-carried : goal.returns-in-Journal-clause-carried
returns-in-Journal-clause-carried g c = λ bs.
    let s = debugged c.args.world.now bs in
    let made = c.put_made-in-Journal in
    let text = whole_text (codes "journal") (journal_text s.world.journal) in
    rw c.in-Journal.is
    (told_carries (Asks s (Journal)) made.result s (g.S.Sink.contents c.args.sink.now) (g.S.Sink.contents made.new.sink)
    text (refl, refl) (made.ensures.told text c.journal_of.ensures))
