-- the way of a throwable through the frames of a thread, the innermost first, and what is left on it
use Rattle.std.proofs.Common.{◌≡◌, ℕ, ◌+◌, ◌-◌, ◌<◌, ◌≤◌, List, [], ◌∷◌, ◌++◌, Bool, true, false, cond, length, map}
use Rattle.std.proofs.Common.{filter, get_or, take, drop, reverse, slice_get, slice_index_or, Option, Some, None}
use Rattle.std.proofs.Common.{append-nil, append_assoc, refl, ap, sym, ◌∙◌, arith}
use Rattle.std.proofs.lemmas.List.{drop_more, drop_all, drop-drop, take_more, take_all, get_or_default, reverse-append}
use Rattle.std.proofs.lemmas.List.{reverse-reverse, map-append}
use Rattle.std.proofs.lemmas.List.Elements.{filter-append}
use Rattle.model.specs.ClassListings.{ClassListing}
use Rattle.model.specs.Frames.{Frame, no_frame}
use Rattle.model.specs.Initialisation.{runs_initializer}
use Rattle.model.specs.Monitors.{released, released_all, monitor_of, with_monitor_if, with_monitor_of, exited, is_owner}
use Rattle.model.specs.Objects.{object_at}
use Rattle.model.specs.Unwinding.{Response, Way, response_of, way_from, way_of, initialised_by, without}
use Rattle.model.specs.Unwinding.Landing.{Handled, Stopped, Unhandled}
use Rattle.model.specs.Unwinding.Response.{Handles, Fails, Leaves}
use Rattle.model.specs.Worlds.{World, Monitor, Thread, Object, frames_of, frames_at, with_thread}
use Rattle.ideal_run.specs.declared.worlds.Step.{Step}
use Rattle.ideal_run.specs.declared.unwinding.Landing.TheVariants as code
use Rattle.ideal_run.specs.Steps.{stepped}
use Rattle.ideal_run.specs.Ways.{way_at}

-- ---- frames from the last one on

pub reverse-drop : (xs : List Frame) (n : ℕ) (x : Frame) → 0 < n → n - 1 < length xs → x ≡ get_or xs (n - 1) x
    → reverse (drop (n - 1) xs) ≡ reverse (drop n xs) ++ x ∷ []
reverse-drop xs n x some h is =
    let next : n - 1 + 1 ≡ n = omega arith in
    let split : drop (n - 1) xs ≡ x ∷ drop n xs = drop_more xs (n - 1) x h
    ∙ (ap (λ (y : Frame). y ∷ drop (n - 1 + 1) xs) (sym is) ∙ ap (λ (m : ℕ). x ∷ drop m xs) next) in
    ap reverse split ∙ reverse-append (x ∷ []) (drop n xs)

abbrev monitor_in_frame : Frame → Option ℕ
monitor_in_frame f = f.monitor

pub monitors-more : (xs : List Frame) (n : ℕ) (x : Frame) (ms after : List (Option ℕ)) → 0 < n → n - 1 < length xs
    → x ≡ get_or xs (n - 1) x → ms ≡ map (λ (f : Frame). f.monitor) (reverse (drop n xs)) → after ≡ ms ++ x.monitor ∷ []
    → after ≡ map (λ (f : Frame). f.monitor) (reverse (drop (n - 1) xs))
monitors-more xs n x ms after some h is so_far after-is =
    after-is ∙ (ap (λ (l : List (Option ℕ)). l ++ x.monitor ∷ []) so_far
    ∙ (sym (map-append monitor_in_frame (reverse (drop n xs)) (x ∷ []))
    ∙ sym (ap (map monitor_in_frame) (reverse-drop xs n x some h is))))

abbrev class_in_frame : Frame → ℕ
class_in_frame f = f.method.class

module _ (program : List ClassListing) where
  classes-append : (fs gs : List Frame) → initialised_by program (fs ++ gs) ≡ initialised_by program fs ++
      initialised_by program gs
  classes-append fs gs = ap (map class_in_frame) (filter-append (runs_initializer program) fs gs)
      ∙ map-append class_in_frame (filter (runs_initializer program) fs) (filter (runs_initializer program) gs)

  one-if : (x : Frame) (b : Bool) → runs_initializer program x ≡ b → initialised_by program (x ∷ [])
      ≡ cond b (x.method.class ∷ []) []
  one-if x b is = ap (λ (c : Bool). map class_in_frame (cond c (x ∷ []) [])) is ∙ by b where
    by : (c : Bool) → map class_in_frame (cond c (x ∷ []) []) ≡ cond c (x.method.class ∷ []) []
    by true = refl
    by false = refl

  pub classes-more : (xs : List Frame) (n : ℕ) (x : Frame) (cs after : List ℕ) → 0 < n → n - 1 < length xs
      → x ≡ get_or xs (n - 1) x → cs ≡ initialised_by program (reverse (drop n xs)) → runs_initializer program x ≡ true
      → after ≡ cs ++ x.method.class ∷ [] → after ≡ initialised_by program (reverse (drop (n - 1) xs))
  classes-more xs n x cs after some h is so_far runs after-is =
      after-is ∙ (ap (λ (l : List ℕ). l ++ x.method.class ∷ []) so_far
      ∙ (ap (λ (l : List ℕ). initialised_by program (reverse (drop n xs)) ++ l) (sym (one-if x true runs))
      ∙ (sym (classes-append (reverse (drop n xs)) (x ∷ []))
      ∙ sym (ap (initialised_by program) (reverse-drop xs n x some h is)))))

  pub classes-same : (xs : List Frame) (n : ℕ) (x : Frame) (cs : List ℕ) → 0 < n → n - 1 < length xs
      → x ≡ get_or xs (n - 1) x → cs ≡ initialised_by program (reverse (drop n xs)) → runs_initializer program x ≡ false
      → cs ≡ initialised_by program (reverse (drop (n - 1) xs))
  classes-same xs n x cs some h is so_far runs =
      so_far ∙ (sym (append-nil (initialised_by program (reverse (drop n xs))))
      ∙ (ap (λ (l : List ℕ). initialised_by program (reverse (drop n xs)) ++ l) (sym (one-if x false runs))
      ∙ (sym (classes-append (reverse (drop n xs)) (x ∷ []))
      ∙ sym (ap (initialised_by program) (reverse-drop xs n x some h is)))))

zero-take : (fs : List Frame) → take 0 fs ≡ []
zero-take [] = refl
zero-take (f ∷ fs) = refl

zero-drop : (fs : List Frame) → drop 0 fs ≡ fs
zero-drop [] = refl
zero-drop (f ∷ fs) = refl

-- ---- the way that is left

module _ (program : List ClassListing) (class : List ℕ) (frames : List Frame) where
  -- that of the first n frames
  abbrev ahead : ℕ → Way
  ahead n = way_of program class (reverse (take n frames))

  -- that of all, where it isn't decided by those from n on
  abbrev pub passed : ℕ → Way
  passed n = record { landing = (ahead n).landing; left = reverse (drop n frames) ++ (ahead n).left }

  ahead-one : (n : ℕ) (f : Frame) (r : Response) → 0 < n → n - 1 < length frames → f ≡ get_or frames (n - 1) f
      → r ≡ response_of program class f → ahead n ≡ way_from f (reverse (take (n - 1) frames)) r (ahead (n - 1))
  ahead-one n f r some h is answers =
      let next : n - 1 + 1 ≡ n = omega arith in
      ap ahead (sym next)
      ∙ (ap (λ (l : List Frame). way_of program class (reverse l)) (take_more frames (n - 1) f h
      ∙ ap (λ (g : Frame). take (n - 1) frames ++ g ∷ []) (sym is))
      ∙ (ap (way_of program class) (reverse-append (take (n - 1) frames) (f ∷ []))
      ∙ ap (λ (x : Response). way_from f (reverse (take (n - 1) frames)) x (ahead (n - 1))) (sym answers)))

  abbrev following : ℕ → Way → Way
  following n way = record { landing = way.landing; left = reverse (drop n frames) ++ way.left }

  pub way-start : way_of program class (reverse frames) ≡ passed (length frames)
  way-start =
      ap (λ (l : List Frame). way_of program class (reverse l)) (sym (take_all (length frames) frames (omega arith)))
      ∙ sym (ap (λ (l : List Frame). record {
        landing = (ahead (length frames)).landing;
        left = reverse l ++ (ahead (length frames)).left;
      }) (drop_all (length frames) frames (omega arith)))

  pub way-leaves : (whole : Way) (n : ℕ) (f : Frame) → whole ≡ passed n → 0 < n → n - 1 < length frames
      → f ≡ get_or frames (n - 1) f → Leaves ≡ response_of program class f → whole ≡ passed (n - 1)
  way-leaves whole n f is some h at answers =
      is ∙ (ap (following n) (ahead-one n f Leaves some h at answers)
      ∙ ap (λ (l : List Frame). record { landing = (ahead (n - 1)).landing; left = l })
      (sym (append_assoc (reverse (drop n frames)) (f ∷ []) (ahead (n - 1)).left)
      ∙ sym (ap (λ (l : List Frame). l ++ (ahead (n - 1)).left) (reverse-drop frames n f some h at))))

  got : (n : ℕ) (f : Frame) → n < length frames → f ≡ get_or frames n f → slice_index_or frames n no_frame ≡ f
  got n f h is = get_or_default frames n no_frame f h ∙ sym is

  pub way-handles : (whole : Way) (n handler : ℕ) (f : Frame) → whole ≡ passed n → 0 < n → n - 1 < length frames
      → f ≡ get_or frames (n - 1) f → Handles handler ≡ response_of program class f
      → way_at frames (n - 1) (code.Handled handler) ≡ whole
  way-handles whole n handler f is some h at answers =
      let next : n - 1 + 1 ≡ n = omega arith in
      sym (is ∙ (ap (following n) (ahead-one n f (Handles handler) some h at answers)
      ∙ (ap (λ (l : List Frame). record { landing = Handled handler f (reverse (take (n - 1) frames)); left = l })
      (append-nil (reverse (drop n frames)))
      ∙ (ap (λ (m : ℕ). record {
        landing = Handled handler f (reverse (take (n - 1) frames));
        left = reverse (drop m frames);
      }) (sym next)
      ∙ ap (λ (g : Frame). record {
        landing = Handled handler g (reverse (take (n - 1) frames));
        left = reverse (drop (n - 1 + 1) frames);
      }) (sym (got (n - 1) f h at))))))

  pub way-fails : (whole : Way) (n : ℕ) (f : Frame) → whole ≡ passed n → 0 < n → n - 1 < length frames
      → f ≡ get_or frames (n - 1) f → Fails ≡ response_of program class f → way_at frames (n - 1) code.Stopped ≡ whole
  way-fails whole n f is some h at answers =
      let next : n - 1 + 1 ≡ n = omega arith in
      sym (is ∙ (ap (following n) (ahead-one n f Fails some h at answers)
      ∙ (ap (λ (l : List Frame). record { landing = Stopped f (reverse (take (n - 1) frames)); left = l })
      (append-nil (reverse (drop n frames)))
      ∙ (ap (λ (m : ℕ). record { landing = Stopped f (reverse (take (n - 1) frames)); left = reverse (drop m frames) })
      (sym next)
      ∙ ap (λ (g : Frame). record {
        landing = Stopped g (reverse (take (n - 1) frames));
        left = reverse (drop (n - 1 + 1) frames);
      }) (sym (got (n - 1) f h at))))))

  pub way-unhandled : (whole : Way) (n : ℕ) → whole ≡ passed n → n ≡ 0 → way_at frames 0 code.Unhandled ≡ whole
  way-unhandled whole n is none = sym (is ∙ (ap passed none ∙ zero_passed)) where
    zero_passed : passed 0 ≡ way_at frames 0 code.Unhandled
    zero_passed =
        ap (λ (l : List Frame). record {
          landing = (way_of program class (reverse l)).landing;
          left = reverse (drop 0 frames) ++ (way_of program class (reverse l)).left;
        }) (zero-take frames)
        ∙ (ap (λ (l : List Frame). record { landing = Unhandled; left = l }) (append-nil (reverse (drop 0 frames)))
        ∙ ap (λ (l : List Frame). record { landing = Unhandled; left = reverse l }) (zero-drop frames))

-- ---- the thread of a throwable

pub lands-with : (frames : List Frame) (n : ℕ) (f : Frame) → reverse (reverse (take n frames)) ++ f ∷ [] ≡ take n frames
    ++ f ∷ []
lands-with frames n f = ap (λ (l : List Frame). l ++ f ∷ []) (reverse-reverse (take n frames))

-- ---- what leaving frames keeps

pub kept-if : (w : World) (b : ℕ) (m : Monitor) (o : Option Object) → (with_monitor_if w b m o).threads ≡ w.threads
kept-if w b m None = refl
kept-if w b m (Some o) = refl

pub released-keeps : (w : World) (t : ℕ) (m : Option ℕ) → (released w t m).threads ≡ w.threads
released-keeps w t None = refl
released-keeps w t (Some b) = by (is_owner t (monitor_of w b).owner) where
  by : (c : Bool) → (cond c (with_monitor_of w b (exited (monitor_of w b))) w).threads ≡ w.threads
  by true = kept-if w b (exited (monitor_of w b)) (object_at w b)
  by false = refl

released_all-keeps : (w : World) (t : ℕ) (ms : List (Option ℕ)) → (released_all w t ms).threads ≡ w.threads
released_all-keeps w t [] = refl
released_all-keeps w t (m ∷ ms) = released_all-keeps (released w t m) t ms ∙ released-keeps w t m

pub released-end : (w v : World) (t i : ℕ) (ms : List (Option ℕ)) → released_all w t ms ≡ released_all v t (drop i ms)
    → length ms ≤ i → v ≡ released_all w t ms
released-end w v t i ms is h = sym (is ∙ ap (released_all v t) (drop_all i ms h))

pub without-keeps : (program : List ClassListing) (w : World) (t : ℕ) (left : List Frame)
    → (without program w t left).threads ≡ w.threads
without-keeps program w t left = released_all-keeps w t (map monitor_in_frame left)

pub land-is : (program : List ClassListing) (w left_world after : World) (t : ℕ) (left : List Frame) (step : Step)
    (thread : Thread)
    → left_world ≡ without program w t left → after ≡ with_thread left_world t (stepped (frames_at left_world t) step)
    → stepped (frames_at w t) step ≡ thread → after ≡ with_thread (without program w t left) t thread
land-is program w left_world after t left step thread is after-is steps =
    let frames : frames_at left_world t ≡ frames_at w t = ap (λ (ts : List Thread). frames_of (slice_get ts t))
    (ap (λ (x : World). x.threads) is ∙ without-keeps program w t left) in
    after-is ∙ (ap (λ (fs : List Frame). with_thread left_world t (stepped fs step)) frames
    ∙ (ap (with_thread left_world t) steps ∙ ap (λ (x : World). with_thread x t thread) is))

pub ruleset ways = (
  released-end,
  monitors-more,
  classes-more,
  classes-same,
  way-start,
  way-leaves,
  way-handles,
  way-fails,
  way-unhandled,
  lands-with,
  land-is,
  drop-drop,
)
