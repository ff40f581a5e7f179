use Rattle.std.proofs.Common.{◌≡◌, ℕ, List, [], ◌∷◌, length, map, slice_get, nat_le, codes, is_some, Bool, true, false}
use Rattle.std.proofs.Common.{if◌then◌else◌, Option, Some, None, Result, Ok, Err, refl, sym, ◌∙◌, ap}
use Rattle.std.specs.Option.{option_map}
use Rattle.std.proofs.lemmas.List.{map-append, length-map}
use Rattle.std.proofs.lemmas.Option.{slice_get-map}
use Rattle.model.specs.declared.turns.Fault.{Fault}
use Rattle.model.specs.declared.values.Value.TheVariants.{Ref}
use Rattle.model.specs.declared.colours.Cell.{Cell}
use Rattle.model.specs.Callees.{Callee, callee_of}
use Rattle.model.specs.Callees.Callee.{Own, Coded, NoCode}
use Rattle.model.specs.Classes.Selection.{selected}
use Rattle.model.specs.Frames.{replaced}
use Rattle.model.specs.Locals.{called_frame}
use Rattle.model.specs.Worlds.{World, Thread, Object, lives}
use Rattle.model.specs.Worlds.Thread.{Live, Ended}
use Rattle.model.specs.Objects.{object_at, class_of, with_object}
use Rattle.model.specs.Completions.{Completion, Site, with_frame, moves_in}
use Rattle.model.specs.Completions.Completion.{Goes, Waits}
use Rattle.model.specs.Table.Threads.{with_more, numbered, thread_added, begins, start_if, starts, started}
use Rattle.model.specs.Table.Threads.{has_live_thread, thread_if, joined}
use Rattle.model.specs.Table.Builtins.{does_nothing}
use Rattle.model.specs.Collector.Places.{Reach}
use Rattle.join.specs.Naming.{Naming, named_ref, named_thread, named_contents, named_object}
use Rattle.join.specs.OnCells.{site_on, completion_on, on_cells, InCell, ReachedInCells}
use Rattle.join.proofs.Cells.{object_in_cell, put_on_cells, class_named}
use Rattle.join.proofs.Naming.{renamed, replaced_named}
use Rattle.join.proofs.Completions.{frame_on_cells, moves_on_cells}
use Rattle.join.proofs.Frames.{called_named}

-- starting and joining threads come to the same on cells: an object's thread is that of its cell's object

module _ (h : Naming) where
  module _ (cells : List Cell) (s : Site) (u : ReachedInCells h cells s.world) where
    abbrev image : Site
    image = site_on h cells s

    abbrev image_of : Completion → Completion
    image_of c = completion_on h cells c

    pub nothing_on_cells : does_nothing image ≡ image_of (does_nothing s)
    nothing_on_cells = ap (moves_in image.world image) (replaced_named h s.next s.frame 1 [])
        ∙ moves_on_cells h cells s.world s (replaced s.next s.frame 1 [])

    -- ---- a thread is started

    threads_length : length image.world.threads ≡ length s.world.threads
    threads_length = length-map s.world.threads (named_thread h)

    numbered_on_cells : (b : ℕ) (o : Object) → InCell h cells s.world b → numbered image.world (h b) (named_object h o)
        ≡ on_cells h cells (numbered s.world b o)
    numbered_on_cells b o k =
        ap (λ n. with_object image.world (h b) (record (named_object h o) { thread = Some n })) threads_length
        ∙ sym (put_on_cells h cells s.world b (record o { thread = Some (length s.world.threads) }) u.named k)

    more_on_cells : (w : World) (t : Thread) → with_more (on_cells h cells w) (named_thread h t)
        ≡ on_cells h cells (with_more w t)
    more_on_cells w t = ap (λ ts. record (on_cells h cells w) { threads = ts })
        (sym (map-append (named_thread h) w.threads (t ∷ [])))

    added_on_cells : (b : ℕ) (o : Object) (t : Thread) (writes : List ℕ) → InCell h cells s.world b
        → thread_added image (h b) (named_object h o) (named_thread h t) (map h writes)
        ≡ image_of (thread_added s b o t writes)
    added_on_cells b o t writes k =
        let f = (replaced s.next s.frame 1 []).frame in
        ap (λ w. Goes (with_more (with_frame w image (replaced s.next image.frame 1 []).frame) (named_thread h t))
        (map h writes)) (numbered_on_cells b o k)
        ∙ ap (λ g. Goes (with_more (with_frame (on_cells h cells (numbered s.world b o)) image g) (named_thread h t))
        (map h writes)) (ap (λ m. m.frame) (replaced_named h s.next s.frame 1 []))
        ∙ ap (λ w. Goes (with_more w (named_thread h t)) (map h writes)) (frame_on_cells h cells (numbered s.world b o)
        s f)
        ∙ ap (λ w. Goes w (map h writes)) (more_on_cells (with_frame (numbered s.world b o) s f) t)

    begins_on_cells : (b : ℕ) (o : Object) (callee : Callee) → InCell h cells s.world b
        → begins image (h b) (named_object h o) callee ≡ image_of (begins s b o callee)
    begins_on_cells b o NoCode k = refl
    begins_on_cells b o (Own builtin) k = added_on_cells b o (Ended None) [] k
    begins_on_cells b o (Coded m) k =
        ap (λ f. thread_added image (h b) (named_object h o) (Live (f ∷ [])) (h b ∷ []))
        (called_named h m.place m.code.max_locals m.code.max_stack (Ref (Some b) ∷ []))
        ∙ added_on_cells b o (Live (called_frame m.place m.code.max_locals m.code.max_stack (Ref (Some b) ∷ []) ∷ []))
        (b ∷ []) k

    start_on_cells : (x y : Completion) (was full : Bool) → x ≡ image_of y → start_if x was full
        ≡ image_of (start_if y was full)
    start_on_cells x y true full e = refl
    start_on_cells x y false true e = refl
    start_on_cells x y false false e = e

    starts_on_cells : (b : ℕ) (k : InCell h cells s.world b) → starts image (h b) (Some (named_object h k.object))
        ≡ image_of (starts s b (Some k.object))
    starts_on_cells b k =
        let o = k.object in
        ap (λ n. start_if (begins image (h b) (named_object h o)
        (callee_of s.program (selected s.program (class_of (named_contents h o.contents)) (codes "run")
        (codes "()V")))) (is_some o.thread) (nat_le 64 n)) threads_length
        ∙ ap (λ class. start_if
        (begins image (h b) (named_object h o)
        (callee_of s.program (selected s.program class (codes "run") (codes "()V")))) (is_some o.thread)
        (nat_le 64 (length s.world.threads))) (class_named h o.contents)
        ∙ start_on_cells _ _ (is_some o.thread) (nat_le 64 (length s.world.threads))
        (begins_on_cells b o (callee_of s.program (selected s.program (class_of o.contents) (codes "run")
        (codes "()V"))) k)

    pub started_on_cells : (r : Result (Option ℕ) Fault) → ((b : ℕ) → r ≡ Ok (Some b) → Reach s.world b)
        → started image (renamed h (named_ref h) r) ≡ image_of (started s r)
    started_on_cells (Err fault) k = refl
    started_on_cells (Ok None) k = refl
    started_on_cells (Ok (Some b)) k = let t = u.reached b (k b refl)
        in ap (starts image (h b)) (object_in_cell h cells s.world b t)
        ∙ starts_on_cells b t ∙ ap (λ o. image_of (starts s b o)) (sym t.made)

    -- ---- a thread's end is waited for

    lives_named : (o : Option Thread) → lives (option_map (named_thread h) o) ≡ lives o
    lives_named None = refl
    lives_named (Some (Live frames)) = refl
    lives_named (Some (Ended by)) = refl

    has_on_cells : (o : Option ℕ) → has_live_thread image.world o ≡ has_live_thread s.world o
    has_on_cells None = refl
    has_on_cells (Some t) = ap lives (slice_get-map (named_thread h) s.world.threads t)
        ∙ lives_named (slice_get s.world.threads t)

    join_on_cells : (live : Bool) → (if live then Waits else does_nothing image)
        ≡ image_of (if live then Waits else does_nothing s)
    join_on_cells true = refl
    join_on_cells false = nothing_on_cells

    pub joined_on_cells : (r : Result (Option ℕ) Fault) → ((b : ℕ) → r ≡ Ok (Some b) → Reach s.world b)
        → joined image (renamed h (named_ref h) r) ≡ image_of (joined s r)
    joined_on_cells (Err fault) k = refl
    joined_on_cells (Ok None) k = refl
    joined_on_cells (Ok (Some b)) k =
        let t = u.reached b (k b refl) in
        ap (λ live. if live then Waits else does_nothing image) (ap (λ o. has_live_thread image.world (thread_if o))
        (object_in_cell h cells s.world b t) ∙ has_on_cells t.object.thread
        ∙ ap (λ o. has_live_thread s.world (thread_if o)) (sym t.made))
        ∙ join_on_cells (has_live_thread s.world (thread_if (object_at s.world b)))
