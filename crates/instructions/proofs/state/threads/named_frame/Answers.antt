use Rattle.std.proofs.Common.{◌≡◌, ℕ, List, Option, map, reverse, ap, refl, ◌∙◌}
use Rattle.model.specs.declared.values.Entry.{Entry}
use Rattle.model.specs.declared.values.Value.{Value}
use Rattle.model.specs.Frames.{Frame}
use Rattle.model.specs.Naming.{Naming, named_entry, named_frame, named_ref, named_value}
use Rattle.join.specs.ReadBack.{birth_read}
use Rattle.frames.proofs.RootLemmas.{map-reverse}
use Rattle.instructions.proofs.state.threads.named_frame.Goals as goal

named_view : (h : Naming) (f : Frame) (stack : List Value) (locals' : List Entry) (stack' : List Value)
    (monitor' : Option ℕ) → f.stack ≡ reverse stack → locals' ≡ map (named_entry h) f.locals
    → stack' ≡ map (named_value h) stack → monitor' ≡ named_ref h f.monitor
    → record f { locals = locals'; stack = reverse stack'; monitor = monitor' } ≡ named_frame h f
named_view h f stack locals' stack' monitor' stack_is locals_are values_are monitor_is = rw (
  locals_are,
  values_are,
  monitor_is,
  stack_is,
  map-reverse (named_value h) stack,
) refl

pub returns : goal.returns
returns c =
    let h = birth_read c.args.heap.now.account.cells in
    let i = c.frame.inside in
    let f : Frame = record {
      method = i.method;
      pc = i.pc;
      locals = i.locals.items;
      stack = reverse i.stack.items;
      room = i.room;
      monitor = i.monitor;
      mark = i.mark;
    } in
    rw (← c.frame.view_is)
    (named_view h f i.stack.items c.in_ok-named_entries.field-0.items c.in_ok-named_values.field-0.items
    c.named_reference.result refl
    (c.in_ok-named_entries.ensures ∙ ap (map (named_entry h)) c.deref.ensures.value)
    (c.in_ok-named_values.ensures ∙ ap (map (named_value h)) c.deref-2.ensures.value)
    c.named_reference.ensures)
