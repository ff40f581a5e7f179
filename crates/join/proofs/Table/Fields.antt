use Rattle.std.proofs.Common.{◌≡◌, ℕ, List, [], ◌∷◌, map, drop, Option, Some, None, Result, Ok, Err, refl, ◌∙◌, ap}
use Rattle.std.specs.Option.{option_and_then}
use Rattle.model.specs.declared.listings.Field.{Field}
use Rattle.model.specs.declared.names.Member.{Member}
use Rattle.model.specs.declared.instructions.Access.{Access}
use Rattle.model.specs.declared.instructions.Access.TheVariants.{Get, Put}
use Rattle.model.specs.declared.values.Value.{Value}
use Rattle.model.specs.declared.turns.Fault.{Fault}
use Rattle.model.specs.Stores.{storage_of, descriptor_kind, kept}
use Rattle.model.specs.Classes.Types.{is_subtype}
use Rattle.model.specs.Classes.Resolution.{resolved_field}
use Rattle.model.specs.Classes.Search.{Declared}
use Rattle.model.specs.declared.colours.Cell.{Cell}
use Rattle.model.specs.Frames.{both, ref_on, running, replaced_if_room}
use Rattle.model.specs.Locals.{value_on}
use Rattle.model.specs.Worlds.{Contents}
use Rattle.model.specs.Objects.{class_at}
use Rattle.model.specs.Completions.{Site, frames_in, completes}
use Rattle.model.specs.Words.{field_index, contents_at, word_of, with_word}
use Rattle.model.specs.Table.Fields.{fields_in, word_place, if_subclass, field_place, word_got, field_got, word_put}
use Rattle.model.specs.Table.Fields.{field_put_in, field_put, field_accessed}
use Rattle.model.specs.Collector.Places.{ref_of, Reach}
use Rattle.model.proofs.CollectorLemmas.Moving.{AllMay}
use Rattle.model.proofs.CollectorLemmas.Known.{stack_known}
use Rattle.model.proofs.CollectorLemmas.Words.{ref_on-known, both-second}
use Rattle.join.specs.Naming.{Naming, named_ref, named_value, named_contents, named_frame}
use Rattle.join.specs.OnCells.{site_on, completion_on, on_cells, InCell, ReachedInCells}
use Rattle.join.proofs.Cells.{contents_in_cell, class_in_cell}
use Rattle.join.proofs.Naming.{renamed, ref_on_named, ref_below_named, value_on_named, pair_named, if_room_named}
use Rattle.join.proofs.Completions.{completes_on_cells, puts_on_cells}
use Rattle.join.proofs.Words.{word_named, kept_named, place_named, with_word_on_cells, fields_named}

-- getfield and putfield come to the same on cells: a birth's fields stand in its cell's object in the same order

module _ (h : Naming) (cells : List Cell) (s : Site) (u : ReachedInCells h cells s.world) where
  abbrev image : Site
  image = site_on h cells s

  place_in : (c : Contents) (r : Option (Declared Field))
      → option_and_then (λ (field : Declared Field). field_index (fields_in (named_contents h c)) field) r
      ≡ option_and_then (λ (field : Declared Field). field_index (fields_in c) field) r
  place_in c None = refl
  place_in c (Some field) = ap (λ fs. field_index fs field) (fields_named h c) ∙ place_named h field (fields_in c)

  place_on_cells : (member : Member) (b : ℕ) → InCell h cells s.world b → field_place image member (h b)
      ≡ field_place s member b
  place_on_cells member b k =
      ap (λ class. if_subclass (is_subtype s.program class member.class) (word_place image member (h b)))
      (class_in_cell h cells s.world b k)
      ∙ ap (λ c. if_subclass (is_subtype s.program (class_at s.world b) member.class)
      (option_and_then (λ (field : Declared Field). field_index (fields_in c) field)
      (resolved_field s.program member))) (contents_in_cell h cells s.world b k)
      ∙ ap (if_subclass (is_subtype s.program (class_at s.world b) member.class))
      (place_in (contents_at s.world b) (resolved_field s.program member))

  got_on_cells : (b : ℕ) → InCell h cells s.world b → (place : Option ℕ) → word_got image (h b) place
      ≡ completion_on h cells (word_got s b place)
  got_on_cells b k None = refl
  got_on_cells b k (Some place) =
      ap (λ v. completes image (replaced_if_room s.next (named_frame h s.frame) 1 (v ∷ [])))
      (ap (λ c. word_of c place) (contents_in_cell h cells s.world b k)
      ∙ word_named h (contents_at s.world b) place)
      ∙ ap (completes image) (if_room_named h s.next s.frame 1 (word_of (contents_at s.world b) place ∷ []))
      ∙ completes_on_cells h cells u.stack_error s
      (replaced_if_room s.next s.frame 1 (word_of (contents_at s.world b) place ∷ []))

  field_got_on_cells : (member : Member) (r : Result (Option ℕ) Fault) → ((b : ℕ) → r ≡ Ok (Some b) → Reach s.world b)
      → field_got image member (renamed h (named_ref h) r) ≡ completion_on h cells (field_got s member r)
  field_got_on_cells member (Err fault) k = refl
  field_got_on_cells member (Ok None) k = refl
  field_got_on_cells member (Ok (Some b)) k = let t = u.reached b (k b refl)
      in ap (word_got image (h b)) (place_on_cells member b t)
      ∙ got_on_cells b t (field_place s member b)

  put_at_on_cells : (descriptor : List ℕ) (v : Value) (b : ℕ) → InCell h cells s.world b → (place : Option ℕ)
      → word_put image descriptor (named_value h v) (h b) place
      ≡ completion_on h cells (word_put s descriptor v b place)
  put_at_on_cells descriptor v b k None = refl
  put_at_on_cells descriptor v b k (Some place) =
      puts_on_cells h cells (with_word s.world b place (kept (storage_of descriptor) v)) _ s 2 v
      (ap (with_word (on_cells h cells s.world) (h b) place) (kept_named h (storage_of descriptor) v)
      ∙ with_word_on_cells h cells s.world u b place (kept (storage_of descriptor) v) k)

  put_in_on_cells : (member : Member) (v : Value) (r : Option ℕ) → ((b : ℕ) → r ≡ Some b → Reach s.world b)
      → field_put_in image member (named_value h v) (named_ref h r) ≡ completion_on h cells (field_put_in s member v r)
  put_in_on_cells member v None k = refl
  put_in_on_cells member v (Some b) k = let t = u.reached b (k b refl)
      in ap (word_put image member.descriptor (named_value h v) (h b))
      (place_on_cells member b t)
      ∙ put_at_on_cells member.descriptor v b t (field_place s member b)

  abbrev pair : Value × Option ℕ → Value × Option ℕ
  pair p = (named_value h p.0, named_ref h p.1)

  field_put_on_cells : (member : Member) (r : Result (Value × Option ℕ) Fault)
      → ((p : Value × Option ℕ) → r ≡ Ok p → (b : ℕ) → p.1 ≡ Some b → Reach s.world b)
      → field_put image member (renamed h pair r) ≡ completion_on h cells (field_put s member r)
  field_put_on_cells member (Err fault) k = refl
  field_put_on_cells member (Ok p) k = put_in_on_cells member p.0 p.1 (k p refl)

  may_drop : (vs : List Value) → AllMay (Reach s.world) (map ref_of vs)
      → AllMay (Reach s.world) (map ref_of (drop 1 vs))
  may_drop [] m = tt
  may_drop (v ∷ vs) m = m.1

  pub field_on_cells : running (frames_in s) ≡ Some s.frame → (access : Access) (member : Member)
      → field_accessed image access member ≡ completion_on h cells (field_accessed s access member)
  field_on_cells e Get member = rw (ref_on_named h s.frame.stack) (field_got_on_cells member (ref_on s.frame.stack)
      (λ b k. ref_on-known (Reach s.world) s.frame.stack b (stack_known s.world s.thread _ s.frame e) k))
  field_on_cells e Put member =
      let kind = descriptor_kind member.descriptor in
      let stack = s.frame.stack in
      rw (
        value_on_named h kind stack,
        ref_below_named h 1 stack,
        pair_named h (named_value h) (named_ref h) (value_on kind stack) (ref_on (drop 1 stack)),
      )
      (field_put_on_cells member (both (value_on kind stack) (ref_on (drop 1 stack)))
      (λ p k b q. ref_on-known (Reach s.world) (drop 1 stack) b
      (may_drop stack (stack_known s.world s.thread _ s.frame e))
      (both-second (value_on kind stack) (ref_on (drop 1 stack)) p k ∙ ap Ok q)))
