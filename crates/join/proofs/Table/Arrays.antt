use Rattle.std.proofs.Common.{◌≡◌, ℕ, ℤ, pos, negsuc, List, [], ◌∷◌, length, map, drop, nat_lt, Bool, true, false}
use Rattle.std.proofs.Common.{Option, Some, None, Result, Ok, Err, refl, ◌∙◌, ap}
use Rattle.std.proofs.lemmas.List.{drop-map, length-map}
use Rattle.model.specs.declared.instructions.ArrayOperation.{ArrayOperation}
use Rattle.model.specs.declared.instructions.ArrayOperation.TheVariants.{New, NewOf, Length, Load, Store}
use Rattle.model.specs.declared.instructions.ElementKind.{ElementKind}
use Rattle.model.specs.declared.turns.Fault.{Fault}
use Rattle.model.specs.declared.values.Value.{Value}
use Rattle.model.specs.declared.values.Value.TheVariants.{Int, Long, Ref}
use Rattle.model.specs.Stores.{Storage, storage_kind, kept}
use Rattle.model.specs.declared.colours.Cell.{Cell}
use Rattle.model.specs.Frames.{both, int_on, ref_on, running, replaced}
use Rattle.model.specs.Locals.{value_on}
use Rattle.model.specs.Worlds.{Contents}
use Rattle.model.specs.Worlds.Contents.{Instance, Array}
use Rattle.model.specs.Completions.{Completion, Site, frames_in, moves_in}
use Rattle.model.specs.Words.{contents_at, word_of, with_word}
use Rattle.model.specs.Table.Arrays.{array_made, sized, letter_of, descriptor_of, length_of, measured, is_array_of}
use Rattle.model.specs.Table.Arrays.{if_below, index_in, indexed, if_array, element_place, element_got, loaded}
use Rattle.model.specs.Table.Arrays.{storage_in, element_in, may_hold, put_if, element_put, array_stored}
use Rattle.model.specs.Table.Arrays.{array_operated}
use Rattle.model.specs.Collector.Places.{ref_of, Reach}
use Rattle.model.proofs.CollectorLemmas.Moving.{AllMay}
use Rattle.model.proofs.CollectorLemmas.Known.{stack_known}
use Rattle.model.proofs.CollectorLemmas.Calls.{below_known}
use Rattle.model.proofs.CollectorLemmas.Words.{ref_on-known, value_on-known, both-first, both-second}
use Rattle.join.specs.Naming.{Naming, named_ref, named_value, named_contents}
use Rattle.join.specs.OnCells.{site_on, completion_on, InCell, ReachedInCells}
use Rattle.join.proofs.Cells.{contents_in_cell, class_in_cell}
use Rattle.join.proofs.Naming.{renamed, ref_on_named, int_on_named, ref_below_named, value_on_named, pair_named}
use Rattle.join.proofs.Naming.{replaced_named}
use Rattle.join.proofs.Completions.{moves_on_cells, puts_on_cells}
use Rattle.join.proofs.Words.{word_named, kept_named, with_word_on_cells}

-- arrays come to the same on cells: a birth's elements stand in its cell's object in the same order

module _ (h : Naming) where
  index_named : (z : ℤ) (c : Contents) → index_in z (named_contents h c) ≡ index_in z c
  index_named (pos n) (Instance class fields) = refl
  index_named (pos n) (Array element values) = ap (λ (m : ℕ). if_below n (nat_lt n m))
      (length-map values (named_value h))
  index_named (negsuc n) c = refl

  is_array_named : (kind : ElementKind) (c : Contents) → is_array_of kind (named_contents h c) ≡ is_array_of kind c
  is_array_named kind (Instance class fields) = refl
  is_array_named kind (Array element values) = refl

  element_named : (c : Contents) → element_in (named_contents h c) ≡ element_in c
  element_named (Instance class fields) = refl
  element_named (Array element values) = refl

module _ (h : Naming) (cells : List Cell) (s : Site) (u : ReachedInCells h cells s.world) where
  abbrev image : Site
  image = site_on h cells s

  abbrev image_of : Completion → Completion
  image_of c = completion_on h cells c

  sized_on_cells : (element : List ℕ) (z : ℤ) → sized image element z ≡ image_of (sized s element z)
  sized_on_cells element (pos n) = refl
  sized_on_cells element (negsuc n) = refl

  made_on_cells : (element : List ℕ) (r : Result ℤ Fault) → array_made image element r
      ≡ image_of (array_made s element r)
  made_on_cells element (Err fault) = refl
  made_on_cells element (Ok z) = sized_on_cells element z

  length_on_cells : (c : Contents) → length_of image (named_contents h c) ≡ image_of (length_of s c)
  length_on_cells (Instance class fields) = refl
  length_on_cells (Array element values) = rw (length-map values (named_value h))
      (ap (moves_in image.world image) (replaced_named h s.next s.frame 1 (Int (pos (length values)) ∷ []))
      ∙ moves_on_cells h cells s.world s (replaced s.next s.frame 1 (Int (pos (length values)) ∷ [])))

  measured_on_cells : (r : Result (Option ℕ) Fault) → ((b : ℕ) → r ≡ Ok (Some b) → Reach s.world b)
      → measured image (renamed h (named_ref h) r) ≡ image_of (measured s r)
  measured_on_cells (Err fault) k = refl
  measured_on_cells (Ok None) k = refl
  measured_on_cells (Ok (Some b)) k = ap (length_of image) (contents_in_cell h cells s.world b (u.reached b (k b refl)))
      ∙ length_on_cells (contents_at s.world b)

  -- ---- a place in an array, and what is done there

  place_on_cells : (kind : ElementKind) (z : ℤ) (b : ℕ) → InCell h cells s.world b
      → element_place image.world kind z (Some (h b)) ≡ if_array (is_array_of kind (contents_at s.world b))
      (indexed (h b) (index_in z (contents_at s.world b)))
  place_on_cells kind z b k =
      ap (λ c. if_array (is_array_of kind c) (indexed (h b) (index_in z c))) (contents_in_cell h cells s.world b k)
      ∙ ap (λ is. if_array is (indexed (h b) (index_in z (named_contents h (contents_at s.world b)))))
      (is_array_named h kind (contents_at s.world b))
      ∙ ap (λ o. if_array (is_array_of kind (contents_at s.world b)) (indexed (h b) o))
      (index_named h z (contents_at s.world b))

  got_on_cells : (b : ℕ) → InCell h cells s.world b → (is : Bool) (o : Option ℕ)
      → element_got image (if_array is (indexed (h b) o)) ≡ image_of (element_got s (if_array is (indexed b o)))
  got_on_cells b k false o = refl
  got_on_cells b k true None = refl
  got_on_cells b k true (Some place) =
      ap (λ v. moves_in image.world image (replaced s.next image.frame 2 (v ∷ [])))
      (ap (λ c. word_of c place) (contents_in_cell h cells s.world b k)
      ∙ word_named h (contents_at s.world b) place)
      ∙ ap (moves_in image.world image) (replaced_named h s.next s.frame 2 (word_of (contents_at s.world b) place ∷ []))
      ∙ moves_on_cells h cells s.world s (replaced s.next s.frame 2 (word_of (contents_at s.world b) place ∷ []))

  load_on_cells : (kind : ElementKind) (z : ℤ) (r : Option ℕ) → ((b : ℕ) → r ≡ Some b → Reach s.world b)
      → element_got image (element_place image.world kind z (named_ref h r))
      ≡ image_of (element_got s (element_place s.world kind z r))
  load_on_cells kind z None k = refl
  load_on_cells kind z (Some b) k = let t = u.reached b (k b refl) in ap (element_got image) (place_on_cells kind z b t)
      ∙ got_on_cells b t _ _

  may_on_cells : (c : Contents) (v : Value) → AllMay (Reach s.world) (map ref_of (v ∷ []))
      → may_hold image (named_contents h c) (named_value h v) ≡ may_hold s c v
  may_on_cells c (Int z) m = refl
  may_on_cells c (Long z) m = refl
  may_on_cells c (Ref None) m = refl
  may_on_cells c (Ref (Some b)) m = rw (class_in_cell h cells s.world b (u.reached b (m.0 b refl)), element_named h c)
      refl

  if_on_cells : (storage : Storage) (v : Value) (b place : ℕ) → InCell h cells s.world b → (may : Bool)
      → put_if image storage (named_value h v) (h b, place) may ≡ image_of (put_if s storage v (b, place) may)
  if_on_cells storage v b place k true =
      puts_on_cells h cells (with_word s.world b place (kept storage v)) _ s 3 v
      (ap (with_word image.world (h b) place) (kept_named h storage v) ∙ with_word_on_cells h cells s.world u b place
      (kept storage v) k)
  if_on_cells storage v b place k false = refl

  put_on_cells : (storage : Storage) (v : Value) → AllMay (Reach s.world) (map ref_of (v ∷ [])) → (b : ℕ)
      → InCell h cells s.world b → (is : Bool) (o : Option ℕ)
      → element_put image storage (named_value h v) (if_array is (indexed (h b) o))
      ≡ image_of (element_put s storage v (if_array is (indexed b o)))
  put_on_cells storage v m b k false o = refl
  put_on_cells storage v m b k true None = refl
  put_on_cells storage v m b k true (Some place) =
      ap (put_if image storage (named_value h v) (h b, place)) (ap (λ c. may_hold image c (named_value h v))
      (contents_in_cell h cells s.world b k) ∙ may_on_cells (contents_at s.world b) v m)
      ∙ if_on_cells storage v b place k (may_hold s (contents_at s.world b) v)

  store_on_cells : (kind : ElementKind) (z : ℤ) (v : Value) → AllMay (Reach s.world) (map ref_of (v ∷ []))
      → (r : Option ℕ) → ((b : ℕ) → r ≡ Some b → Reach s.world b)
      → element_put image (storage_in kind) (named_value h v) (element_place image.world kind z (named_ref h r))
      ≡ image_of (element_put s (storage_in kind) v (element_place s.world kind z r))
  store_on_cells kind z v m None k = refl
  store_on_cells kind z v m (Some b) k = let t = u.reached b (k b refl)
      in ap (element_put image (storage_in kind) (named_value h v))
      (place_on_cells kind z b t) ∙ put_on_cells (storage_in kind) v m b t _ _

  -- ---- the instructions

  module _ (e : running (frames_in s) ≡ Some s.frame) where
    known : (n b : ℕ) → ref_on (drop n s.frame.stack) ≡ Ok (Some b) → Reach s.world b
    known n b k = ref_on-known (Reach s.world) (drop n s.frame.stack) b (below_known s.world s.thread n s.frame e) k

    abbrev int_ref : ℤ × Option ℕ → ℤ × Option ℕ
    int_ref p = (p.0, named_ref h p.1)

    loaded_on_cells : (kind : ElementKind) (r : Result (ℤ × Option ℕ) Fault)
        → both (int_on s.frame.stack) (ref_on (drop 1 s.frame.stack)) ≡ r → loaded image kind (renamed h int_ref r)
        ≡ image_of (loaded s kind r)
    loaded_on_cells kind (Err fault) k = refl
    loaded_on_cells kind (Ok p) k = load_on_cells kind p.0 p.1
        (λ b q. known 1 b (both-second (int_on s.frame.stack) (ref_on (drop 1 s.frame.stack)) p k ∙ ap Ok q))

    abbrev value_int_ref : Value × (ℤ × Option ℕ) → Value × (ℤ × Option ℕ)
    value_int_ref p = (named_value h p.0, int_ref p.1)

    stored_on_cells : (kind : ElementKind) (r : Result (Value × (ℤ × Option ℕ)) Fault)
        → both (value_on (storage_kind (storage_in kind)) s.frame.stack)
        (both (int_on (drop 1 s.frame.stack)) (ref_on (drop 2 s.frame.stack))) ≡ r
        → array_stored image kind (renamed h value_int_ref r) ≡ image_of (array_stored s kind r)
    stored_on_cells kind (Err fault) k = refl
    stored_on_cells kind (Ok p) k =
        let wanted = storage_kind (storage_in kind) in
        let rest = both (int_on (drop 1 s.frame.stack)) (ref_on (drop 2 s.frame.stack)) in
        let inner = both-second (value_on wanted s.frame.stack) rest p k in
        store_on_cells kind p.1.0 p.0 (value_on-known (Reach s.world) wanted s.frame.stack p.0
        (stack_known s.world s.thread _ s.frame e) (both-first (value_on wanted s.frame.stack) rest p k))
        p.1.1 (λ b q. known 2 b (both-second (int_on (drop 1 s.frame.stack)) (ref_on (drop 2 s.frame.stack)) p.1 inner
        ∙ ap Ok q))

    ints_named : (n : ℕ) → int_on (drop n image.frame.stack) ≡ renamed h (λ (z : ℤ). z) (int_on (drop n s.frame.stack))
    ints_named n = ap int_on (drop-map (named_value h) n s.frame.stack) ∙ int_on_named h (drop n s.frame.stack)
        ∙ same (int_on (drop n s.frame.stack))
      where
        same : (r : Result ℤ Fault) → r ≡ renamed h (λ (z : ℤ). z) r
        same (Err fault) = refl
        same (Ok z) = refl

    pub array_on_cells : (operation : ArrayOperation (List ℕ)) → array_operated image operation
        ≡ image_of (array_operated s operation)
    array_on_cells (New primitive) = rw (int_on_named h s.frame.stack)
        (made_on_cells (letter_of primitive) (int_on s.frame.stack))
    array_on_cells (NewOf name) = rw (int_on_named h s.frame.stack)
        (made_on_cells (descriptor_of name) (int_on s.frame.stack))
    array_on_cells Length = rw (ref_on_named h s.frame.stack) (measured_on_cells (ref_on s.frame.stack)
        (λ b k. known 0 b k))
    array_on_cells (Load kind) =
        rw (
          ints_named 0,
          ref_below_named h 1 s.frame.stack,
          pair_named h (λ (z : ℤ). z) (named_ref h) (int_on s.frame.stack) (ref_on (drop 1 s.frame.stack)),
        )
        (loaded_on_cells kind _ refl)
    array_on_cells (Store kind) =
        let wanted = storage_kind (storage_in kind) in
        let stack = s.frame.stack in
        rw (
          value_on_named h wanted stack,
          ints_named 1,
          ref_below_named h 2 stack,
          pair_named h (λ (z : ℤ). z) (named_ref h) (int_on (drop 1 stack)) (ref_on (drop 2 stack)),
          pair_named h (named_value h)
              int_ref (value_on wanted stack) (both (int_on (drop 1 stack)) (ref_on (drop 2 stack))),
        )
        (stored_on_cells kind _ refl)
