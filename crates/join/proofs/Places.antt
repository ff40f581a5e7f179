use Rattle.std.proofs.Common.{◌≡◌, ℕ, zero, suc, List, [], ◌∷◌, map, reverse, slice_get, Option, Some, None, refl, sym}
use Rattle.std.proofs.Common.{◌∙◌, ap}
use Rattle.std.specs.Option.{option_map}
use Rattle.std.proofs.lemmas.List.{map-append}
use Rattle.std.proofs.lemmas.Option.{slice_get-map}
use Rattle.model.specs.declared.values.Value.{Value}
use Rattle.model.specs.declared.values.Value.TheVariants.{Int, Long, Ref}
use Rattle.model.specs.declared.values.Entry.{Entry}
use Rattle.model.specs.declared.values.Entry.TheVariants.{Unset, Holds, UpperHalf}
use Rattle.model.specs.declared.colours.Cell.{Cell}
use Rattle.model.specs.Frames.{Frame}
use Rattle.model.specs.Worlds.{World, Contents, frames_at}
use Rattle.model.specs.Worlds.Contents.{Instance, Array}
use Rattle.model.specs.Collector.Places.{ref_of, entry_ref, field_ref, ref_at, frame_refs, refs_of_frame}
use Rattle.model.specs.Collector.Places.{monitor_of_frame, entries_at, monitor_at, contents_refs, words_of, slots_of}
use Rattle.model.specs.Collector.Places.{root_at, word_at}
use Rattle.model.specs.Collector.Places.Place.{Slot, FrameEntry, MethodMonitor}
use Rattle.join.specs.Naming.{Naming, named_ref, named_value, named_entry, named_field, named_frame, named_contents}
use Rattle.join.specs.OnCells.{on_cells, InCell}
use Rattle.join.proofs.Cells.{object_in_cell}
use Rattle.join.proofs.Lists.{reverse-map}
use Rattle.join.proofs.Frames.{frames_on_cells}

-- what the collector looks at: each place on cells has the reference of the birth that it has in the ideal world

module _ (h : Naming) where
  pub ref_at_named : (rs : List (Option ℕ)) (k : ℕ) → ref_at (map (named_ref h) rs) k ≡ named_ref h (ref_at rs k)
  ref_at_named [] k = refl
  ref_at_named (r ∷ rs) zero = refl
  ref_at_named (r ∷ rs) (suc k) = ref_at_named rs k

  value_ref : (v : Value) → ref_of (named_value h v) ≡ named_ref h (ref_of v)
  value_ref (Int z) = refl
  value_ref (Long z) = refl
  value_ref (Ref r) = refl

  entry_ref_named : (e : Entry) → entry_ref (named_entry h e) ≡ named_ref h (entry_ref e)
  entry_ref_named Unset = refl
  entry_ref_named (Holds v) = value_ref v
  entry_ref_named UpperHalf = refl

  -- a list whose elements lead to the names of what they led to
  through : {A : Type 0} (f : A → A) (g : A → Option ℕ) → ((x : A) → g (f x) ≡ named_ref h (g x)) → (xs : List A)
      → map g (map f xs) ≡ map (named_ref h) (map g xs)
  through f g k [] = refl
  through f g k (x ∷ xs) = rw (k x, through f g k xs) refl

  frame_refs_named : (f : Frame) → frame_refs (named_frame h f) ≡ map (named_ref h) (frame_refs f)
  frame_refs_named f =
      rw (
        through (named_entry h) entry_ref entry_ref_named f.locals,
        through (named_value h) ref_of value_ref f.stack,
        reverse-map (named_ref h) (map ref_of f.stack),
      )
      (sym (map-append (named_ref h) (map entry_ref f.locals) (reverse (map ref_of f.stack))))

  frame_if : (o : Option Frame) → refs_of_frame (option_map (named_frame h) o) ≡ map (named_ref h) (refs_of_frame o)
  frame_if None = refl
  frame_if (Some f) = frame_refs_named f

  monitor_if : (o : Option Frame) → monitor_of_frame (option_map (named_frame h) o) ≡ named_ref h (monitor_of_frame o)
  monitor_if None = refl
  monitor_if (Some f) = refl

  contents_named : (c : Contents) → contents_refs (named_contents h c) ≡ map (named_ref h) (contents_refs c)
  contents_named (Instance class fields) = through (named_field h) field_ref (λ f. value_ref f.value) fields
  contents_named (Array element values) = through (named_value h) ref_of value_ref values

  module _ (cells : List Cell) (w : World) where
    pub entries_on_cells : (t d : ℕ) → entries_at (frames_at (on_cells h cells w) t) d
        ≡ map (named_ref h) (entries_at (frames_at w t) d)
    entries_on_cells t d = ap (λ fs. entries_at fs d) (frames_on_cells h cells w t)
        ∙ ap refs_of_frame (slice_get-map (named_frame h) (frames_at w t) d) ∙ frame_if (slice_get (frames_at w t) d)

    monitor_on_cells : (t d : ℕ) → monitor_at (frames_at (on_cells h cells w) t) d
        ≡ named_ref h (monitor_at (frames_at w t) d)
    monitor_on_cells t d = ap (λ fs. monitor_at fs d) (frames_on_cells h cells w t)
        ∙ ap monitor_of_frame (slice_get-map (named_frame h) (frames_at w t) d)
        ∙ monitor_if (slice_get (frames_at w t) d)

    pub slots_on_cells : slots_of (on_cells h cells w) ≡ map (named_ref h) (slots_of w)
    slots_on_cells = through (named_field h) field_ref (λ f. value_ref f.value) w.statics.fields

    pub slot_on_cells : (i : ℕ) → root_at (on_cells h cells w) (Slot i) ≡ named_ref h (root_at w (Slot i))
    unfolding root_at
    slot_on_cells i = ap (λ rs. ref_at rs i) slots_on_cells ∙ ref_at_named (slots_of w) i

    pub entry_on_cells : (t d j : ℕ) → root_at (on_cells h cells w) (FrameEntry t d j)
        ≡ named_ref h (root_at w (FrameEntry t d j))
    unfolding root_at
    entry_on_cells t d j = ap (λ rs. ref_at rs j) (entries_on_cells t d) ∙ ref_at_named (entries_at (frames_at w t) d) j

    pub method_on_cells : (t d : ℕ) → root_at (on_cells h cells w) (MethodMonitor t d)
        ≡ named_ref h (root_at w (MethodMonitor t d))
    unfolding root_at
    method_on_cells t d = monitor_on_cells t d

    pub words_on_cells : (b : ℕ) → InCell h cells w b → words_of (on_cells h cells w).objects (h b)
        ≡ map (named_ref h) (words_of w.objects b)
    words_on_cells b s = rw (object_in_cell h cells w b s, s.made) (contents_named s.object.contents)

    pub word_on_cells : (b q : ℕ) → InCell h cells w b → word_at (on_cells h cells w) (h b) q
        ≡ named_ref h (word_at w b q)
    unfolding word_at
    word_on_cells b q s = ap (λ rs. ref_at rs q) (words_on_cells b s) ∙ ref_at_named (words_of w.objects b) q
