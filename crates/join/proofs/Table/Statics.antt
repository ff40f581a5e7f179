use Rattle.std.proofs.Common.{◌≡◌, ℕ, List, [], ◌∷◌, map, Option, Some, None, Result, Ok, Err, refl, ◌∙◌, ap}
use Rattle.std.specs.Option.{option_and_then}
use Rattle.model.specs.declared.listings.Field.{Field}
use Rattle.model.specs.declared.names.Member.{Member}
use Rattle.model.specs.declared.instructions.Access.{Access}
use Rattle.model.specs.declared.instructions.Access.TheVariants.{Get, Put}
use Rattle.model.specs.declared.values.Value.{Value}
use Rattle.model.specs.declared.turns.Fault.{Fault}
use Rattle.model.specs.Stores.{storage_of, descriptor_kind, kept}
use Rattle.model.specs.Classes.Resolution.{resolved_field}
use Rattle.model.specs.Classes.Search.{Declared}
use Rattle.model.specs.declared.colours.Cell.{Cell}
use Rattle.model.specs.Frames.{replaced_if_room}
use Rattle.model.specs.Locals.{value_on}
use Rattle.model.specs.Completions.{Site, completes}
use Rattle.model.specs.Words.{field_index, slot_at, with_slot}
use Rattle.model.specs.Table.Statics.{slot_of, static_got, static_put, static_accessed}
use Rattle.join.specs.Naming.{Naming, named_value, named_field}
use Rattle.join.specs.OnCells.{site_on, completion_on, on_cells, ReachedInCells}
use Rattle.join.proofs.Naming.{renamed, value_on_named, if_room_named}
use Rattle.join.proofs.Completions.{completes_on_cells, puts_on_cells}
use Rattle.join.proofs.Words.{value_named, with_value_named, kept_named, place_named}

-- getstatic and putstatic come to the same on cells: static fields stand in the same order

module _ (h : Naming) (cells : List Cell) (s : Site) (u : ReachedInCells h cells s.world) where
  abbrev image : Site
  image = site_on h cells s

  slot_on_cells : (r : Option (Declared Field))
      → option_and_then (λ (field : Declared Field). field_index (map (named_field h) s.world.statics.fields) field) r
      ≡ option_and_then (λ (field : Declared Field). field_index s.world.statics.fields field) r
  slot_on_cells None = refl
  slot_on_cells (Some field) = place_named h field s.world.statics.fields

  got_on_cells : (slot : Option ℕ) → static_got image slot ≡ completion_on h cells (static_got s slot)
  got_on_cells None = refl
  got_on_cells (Some slot) =
      ap (λ v. completes image (replaced_if_room s.next image.frame 0 (v ∷ [])))
      (value_named h s.world.statics.fields slot)
      ∙ ap (completes image) (if_room_named h s.next s.frame 0 (slot_at s.world slot ∷ []))
      ∙ completes_on_cells h cells u.stack_error s (replaced_if_room s.next s.frame 0 (slot_at s.world slot ∷ []))

  with_slot_on_cells : (slot : ℕ) (v : Value) → with_slot image.world slot (named_value h v)
      ≡ on_cells h cells (with_slot s.world slot v)
  with_slot_on_cells slot v = ap
      (λ fs. record image.world { statics = record { fields = fs; states = s.world.statics.states } })
      (with_value_named h s.world.statics.fields slot v)

  put_on_cells : (descriptor : List ℕ) (r : Result Value Fault) (slot : Option ℕ)
      → static_put image descriptor (renamed h (named_value h) r) slot
      ≡ completion_on h cells (static_put s descriptor r slot)
  put_on_cells descriptor (Err fault) slot = refl
  put_on_cells descriptor (Ok v) None = refl
  put_on_cells descriptor (Ok v) (Some slot) =
      puts_on_cells h cells (with_slot s.world slot (kept (storage_of descriptor) v)) _ s 1 v
      (ap (with_slot image.world slot) (kept_named h (storage_of descriptor) v)
      ∙ with_slot_on_cells slot (kept (storage_of descriptor) v))

  pub static_on_cells : (access : Access) (member : Member) → static_accessed image access member
      ≡ completion_on h cells (static_accessed s access member)
  static_on_cells Get member = ap (static_got image) (slot_on_cells (resolved_field s.program member))
      ∙ got_on_cells (slot_of s member)
  static_on_cells Put member =
      ap (static_put image member.descriptor (value_on (descriptor_kind member.descriptor) image.frame.stack))
      (slot_on_cells (resolved_field s.program member))
      ∙ ap (λ r. static_put image member.descriptor r (slot_of s member))
      (value_on_named h (descriptor_kind member.descriptor) s.frame.stack)
      ∙ put_on_cells member.descriptor (value_on (descriptor_kind member.descriptor) s.frame.stack) (slot_of s member)
