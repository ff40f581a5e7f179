-- The rows that runs stand for, as runs grow and as they are read.
use Rattle.std.proofs.Common.{◌≡◌, ◌<◌, ◌≤◌, ◌+◌, ◌-◌, ◌*◌, ◌%◌, ◌++◌, ◌∷◌, ℕ, zero, suc, List, [], length, replicate}
use Rattle.std.proofs.Common.{set, take, drop, get_or, Bool, true, false, Some, refl, ap, sym, subst, ◌∙◌, arith}
use Rattle.std.proofs.lemmas.List.{append-nil, append_assoc, length-append, length-drop, length-replicate}
use Rattle.std.proofs.lemmas.List.{replicate-append-replicate, drop_at, take_rest}
use Rattle.std.proofs.lemmas.List.Elements.{All-append, All-nil, All-replicate}
use Rattle.std.specs.List.{repeat}
use Rattle.std.specs.Prelude.{◌==◌, if◌then◌else◌, slice_get}
use Rattle.model.specs.declared.journals.Outcome.{Outcome}
use Rattle.model.specs.declared.journals.Outcome.TheVariants.{Done, Object, NoRoom, Fault}
use Rattle.model.specs.declared.journals.Row.{Row}
use Rattle.model.specs.declared.row_runs.RowRun.{RowRun}
use Rattle.model.specs.declared.row_runs.TurnTaken.{TurnTaken}
use Rattle.model.specs.declared.row_runs.TurnTaken.TheVariants.{Done as DoneBy}
use Rattle.model.specs.declared.turns.Actor.{Actor}
use Rattle.model.specs.declared.turns.Actor.TheVariants.{Thread, Collector}
use Rattle.model.specs.Journals.{AreOfWorkers, rows_of_rounds}
use Rattle.model.specs.RowRuns.{AreLeft, AreRuns, IsWithin, collector_row, first_row, is_round, last_row, row_after}
use Rattle.model.specs.RowRuns.{rows_count}
use Rattle.model.specs.RowRuns.{rows_in, rows_of, taken}

-- ---- rows again and again

repeat-append : (m n : ℕ) (xs : List Row) → repeat (m + n) xs ≡ repeat m xs ++ repeat n xs
repeat-append zero n xs = let none : 0 + n ≡ n = omega arith in ap (λ k. repeat k xs) none
repeat-append (suc m) n xs =
    let next : suc m + n ≡ suc (m + n) = omega arith in
    ap (λ k. repeat k xs) next
    ∙ ap (λ l. xs ++ l) (repeat-append m n xs)
    ∙ sym (append_assoc xs (repeat m xs) (repeat n xs))

repeat-one : (n : ℕ) (row : Row) → repeat n (row ∷ []) ≡ replicate n row
repeat-one zero row = refl
repeat-one (suc n) row = ap (λ l. row ∷ l) (repeat-one n row)

-- no rows so many times are no rows, so they are the same as any other
same_times : (k : ℕ) (rows : List Row) (row : Row) → (0 < k → rows ≡ row ∷ []) → repeat k rows ≡ replicate k row
same_times zero rows row same = refl
same_times (suc k) rows row same = ap (repeat (suc k)) (same (omega arith)) ∙ repeat-one (suc k) row

repeat-long : (n : ℕ) (x : Row) (xs : List Row) → n ≤ length (repeat n (x ∷ xs))
repeat-long zero x xs = omega arith
repeat-long (suc n) x xs =
    let rest = repeat-long n x xs in
    let both = length-append (x ∷ xs) (repeat n (x ∷ xs)) in
    omega (arith, rest, both)

-- ---- one run

-- for no run
abbrev pub no_run : RowRun
no_run = record { turn = DoneBy 0; worker = 0; times = 0 }

of_row : (a : Actor) (o : Outcome) (w : ℕ) → rows_of (taken a o) w
    ≡ record { actor = a; outcome = o; worker = w } ∷ []
of_row (Thread t) Done w = refl
of_row (Thread t) Object w = refl
of_row (Thread t) NoRoom w = refl
of_row (Thread t) Fault w = refl
of_row Collector Done w = refl
of_row Collector Object w = refl
of_row Collector NoRoom w = refl
of_row Collector Fault w = refl

-- a row's turn stands for it alone
pub rows_of-taken : (row : Row) → rows_of (taken row.actor row.outcome) row.worker ≡ row ∷ []
rows_of-taken row = of_row row.actor row.outcome row.worker

-- and so many times for so many
pub taken_times : (row : Row) (n : ℕ) → repeat n (rows_of (taken row.actor row.outcome) row.worker) ≡ replicate n row
taken_times row n = ap (repeat n) (rows_of-taken row) ∙ repeat-one n row

abbrev run_of : TurnTaken → ℕ → ℕ → RowRun
run_of turn worker n = record { turn = turn; worker = worker; times = n }

counted : (b : Bool) (n : ℕ) (x y : Row) → length (repeat n (x ∷ (if b then y ∷ [] else [])))
    ≡ (if b then n + n else n)
counted true zero x y = refl
counted true (suc n) x y = let rest = counted true n x y in omega (arith, rest)
counted false zero x y = refl
counted false (suc n) x y = let rest = counted false n x y in omega (arith, rest)

-- ---- runs that grow

rows_in-append : (xs ys : List RowRun) → rows_in (xs ++ ys) ≡ rows_in xs ++ rows_in ys
rows_in-append [] ys = refl
rows_in-append (x ∷ xs) ys =
    ap (λ l. repeat x.times (rows_of x.turn x.worker) ++ l) (rows_in-append xs ys)
    ∙ sym (append_assoc (repeat x.times (rows_of x.turn x.worker)) (rows_in xs) (rows_in ys))

-- a run more
pub rows_in-push : (runs : List RowRun) (run : RowRun) → rows_in (runs ++ run ∷ []) ≡ rows_in runs
    ++ repeat run.times (rows_of run.turn run.worker)
rows_in-push runs run =
    rows_in-append runs (run ∷ [])
    ∙ ap (λ l. rows_in runs ++ l) (append-nil (repeat run.times (rows_of run.turn run.worker)))

-- a row more
pub rows_in-row : (runs : List RowRun) (row : Row)
    → rows_in (runs ++ run_of (taken row.actor row.outcome) row.worker 1 ∷ []) ≡ rows_in runs ++ row ∷ []
rows_in-row runs row =
    rows_in-push runs (run_of (taken row.actor row.outcome) row.worker 1)
    ∙ ap (λ l. rows_in runs ++ l) (taken_times row 1)

pub AreRuns-push : (runs : List RowRun) (run : RowRun) → AreRuns runs → 1 ≤ run.times → AreRuns (runs ++ run ∷ [])
AreRuns-push [] run are some = (some, tt)
AreRuns-push (r ∷ runs) run are some = (are.0, AreRuns-push runs run are.1 some)

abbrev with_times : RowRun → ℕ → RowRun
with_times run n = record run { times = n }

-- the last run is longer
rows_in-longer : (runs : List RowRun) (i k : ℕ) (row : Row) (d : RowRun) → i + 1 ≡ length runs
    → (0 < k → rows_of (get_or runs i d).turn (get_or runs i d).worker ≡ row ∷ [])
    → rows_in (set runs i (with_times (get_or runs i d) ((get_or runs i d).times + k))) ≡ rows_in runs
    ++ replicate k row
rows_in-longer [] i k row d last same = absurd (omega (arith, last))
rows_in-longer (r ∷ []) zero k row d last same =
    let rows = repeat r.times (rows_of r.turn r.worker) in
    ap (λ l. l ++ []) (repeat-append r.times k (rows_of r.turn r.worker)
    ∙ ap (λ l. rows ++ l) (same_times k (rows_of r.turn r.worker) row same))
    ∙ append-nil (rows ++ replicate k row)
    ∙ ap (λ l. l ++ replicate k row) (sym (append-nil rows))
rows_in-longer (r ∷ s ∷ runs) zero k row d last same = absurd (omega (arith, last))
rows_in-longer (r ∷ runs) (suc i) k row d last same =
    let rows = repeat r.times (rows_of r.turn r.worker) in
    ap (λ l. rows ++ l) (rows_in-longer runs i k row d (omega (arith, last)) same)
    ∙ sym (append_assoc rows (rows_in runs) (replicate k row))

AreRuns-longer : (runs : List RowRun) (i k : ℕ) (d : RowRun) → AreRuns runs
    → AreRuns (set runs i (with_times (get_or runs i d) ((get_or runs i d).times + k)))
AreRuns-longer [] i k d are = tt
AreRuns-longer (r ∷ runs) zero k d are = (omega (arith, are.0), are.1)
AreRuns-longer (r ∷ runs) (suc i) k d are = (are.0, AreRuns-longer runs i k d are.1)

module _ (runs : List RowRun) (i k : ℕ) (last : RowRun) (is : last ≡ get_or runs i last) where
  pub rows_lengthened : (row : Row) → i + 1 ≡ length runs → (0 < k → rows_of last.turn last.worker ≡ row ∷ [])
      → rows_in (set runs i (with_times last (last.times + k))) ≡ rows_in runs ++ replicate k row
  rows_lengthened row at same =
      ap (λ (r : RowRun). rows_in (set runs i (with_times r (r.times + k)))) is
      ∙ rows_in-longer runs i k row last at (λ some. ap (λ (r : RowRun). rows_of r.turn r.worker) (sym is) ∙ same some)

  pub runs_lengthened : AreRuns runs → AreRuns (set runs i (with_times last (last.times + k)))
  runs_lengthened are = subst (λ (r : RowRun). AreRuns (set runs i (with_times r (r.times + k)))) (sym is)
      (AreRuns-longer runs i k last are)

-- there are no more runs than rows
pub runs_fit : (runs : List RowRun) → AreRuns runs → length runs ≤ length (rows_in runs)
runs_fit [] are = omega arith
runs_fit (r ∷ runs) are =
    let rest = runs_fit runs are.1 in
    let first = repeat-long r.times (first_row r.turn r.worker)
    (if is_round r.turn then collector_row r.worker ∷ [] else []) in
    let both = length-append (repeat r.times (rows_of r.turn r.worker)) (rows_in runs) in
    omega (arith, are.0, rest, first, both)

-- a run more leaves fewer times to come
pub rows_pushed : (runs all : List RowRun) (rows : List Row) (turn : TurnTaken) (worker left n : ℕ)
    → all ≡ runs ++ run_of turn worker n ∷ [] → n ≤ left
    → rows_in runs ++ repeat left (rows_of turn worker) ≡ rows
    → rows_in all ++ repeat (left - n) (rows_of turn worker) ≡ rows
rows_pushed runs all rows turn worker left n all_is most so_far =
    let sum : n + (left - n) ≡ left = omega (arith, most) in
    let once = rows_of turn worker in
    ap (λ l. rows_in l ++ repeat (left - n) once) all_is
    ∙ ap (λ l. l ++ repeat (left - n) once) (rows_in-push runs (run_of turn worker n))
    ∙ append_assoc (rows_in runs) (repeat n once) (repeat (left - n) once)
    ∙ ap (λ l. rows_in runs ++ l) (sym (repeat-append n (left - n) once) ∙ ap (λ m. repeat m once) sum)
    ∙ so_far

-- some rows in the last run, and the others after it
pub rows_noted : (rows before after : List Row) (row : Row) (times n : ℕ) → before ≡ rows ++ replicate n row → n ≤ times
    → after ≡ before ++ replicate (times - n) row → after ≡ rows ++ replicate times row
rows_noted rows before after row times n first most next =
    let sum : n + (times - n) ≡ times = omega (arith, most) in
    next
    ∙ ap (λ l. l ++ replicate (times - n) row) first
    ∙ append_assoc rows (replicate n row) (replicate (times - n) row)
    ∙ ap (λ l. rows ++ l) (replicate-append-replicate n (times - n) row ∙ ap (λ m. replicate m row) sum)

-- ---- rounds

-- how many rows they have
pub rounds-length : (first second : Row) (times n : ℕ) → length (rows_of_rounds first second times n) ≡ n * (1 + times)
rounds-length first second times zero = omega arith
rounds-length first second times (suc n) =
    let rest = rounds-length first second times n in
    let both = length-append (first ∷ replicate times second) (rows_of_rounds first second times n) in
    let one = length-replicate times second in
    let next : suc n * (1 + times) ≡ n * (1 + times) + (1 + times) = omega arith in
    omega (arith, rest, both, one, next)

abbrev IsOf : ℕ → Row → Type 0
IsOf workers row = row.worker < workers

repeated-workers : (workers n : ℕ) (rows : List Row) → AreOfWorkers workers rows → AreOfWorkers workers (repeat n rows)
repeated-workers workers zero rows are = All-nil (IsOf workers)
repeated-workers workers (suc n) rows are = All-append (IsOf workers) rows (repeat n rows) are
    (repeated-workers workers n rows are)

-- they are of workers as the two are
pub rounds-workers : (workers : ℕ) (rows : List Row) (first second : Row) (times n : ℕ) → AreOfWorkers workers rows
    → first.worker < workers → second.worker < workers
    → AreOfWorkers workers (rows ++ rows_of_rounds first second times n)
rounds-workers workers rows first second times n are one two =
    All-append (IsOf workers) rows (rows_of_rounds first second times n) are
    (repeated-workers workers n (first ∷ replicate times second)
    (All-append (IsOf workers) (replicate 1 first) (replicate times second) (All-replicate (IsOf workers) 1 first one)
    (All-replicate (IsOf workers) times second two)))

module _ (first second : Row) (times left m : ℕ) (is : left ≡ suc m) where
  -- the rows of one round, and those of the others
  pub rounds-left : length (rows_of_rounds first second times left)
      ≡ 1 + times + length (rows_of_rounds first second times m)
  rounds-left =
      let both = length-append (first ∷ replicate times second) (rows_of_rounds first second times m) in
      let one = length-replicate times second in
      let all = ap (λ n. length (rows_of_rounds first second times n)) is in
      omega (arith, both, one, all)

  -- a round more leaves one fewer to come
  pub round_pushed : (now mid after rows : List Row) → mid ≡ now ++ replicate 1 first
      → after ≡ mid ++ replicate times second
      → now ++ rows_of_rounds first second times left ≡ rows
      → after ++ rows_of_rounds first second times m ≡ rows
  round_pushed now mid after rows one next so_far =
      let rest = rows_of_rounds first second times m in
      ap (λ l. l ++ rest) (next ∙ ap (λ l. l ++ replicate times second) one
      ∙ append_assoc now (replicate 1 first) (replicate times second))
      ∙ append_assoc now (first ∷ replicate times second) rest
      ∙ ap (λ n. now ++ rows_of_rounds first second times n) (sym is)
      ∙ so_far

-- ---- runs that are read

get-following : (xs ys : List Row) (m n : ℕ) → m ≡ length xs + n → slice_get (xs ++ ys) m ≡ slice_get ys n
get-following [] ys m n e = ap (slice_get ys) (omega (arith, e))
get-following (x ∷ xs) ys zero n e = absurd (omega (arith, e))
get-following (x ∷ xs) ys (suc m) n e = get-following xs ys m n (omega (arith, e))

get-drop : (n : ℕ) (xs : List Row) (k m : ℕ) → k ≡ n + m → slice_get (drop n xs) m ≡ slice_get xs k
get-drop zero xs k m e = ap (slice_get xs) (omega (arith, e))
get-drop (suc n) [] k m e = refl
get-drop (suc n) (x ∷ xs) zero m e = absurd (omega (arith, e))
get-drop (suc n) (x ∷ xs) (suc k) m e = get-drop n xs k m (omega (arith, e))

last_repeated : (b : Bool) (n : ℕ) (x y : Row) → 0 < n
    → slice_get (repeat n (x ∷ (if b then y ∷ [] else []))) (length (repeat n (x ∷ (if b then y ∷ [] else []))) - 1)
    ≡ Some (if b then y else x)
last_repeated b zero x y some = absurd (omega (arith, some))
last_repeated true (suc zero) x y some = refl
last_repeated false (suc zero) x y some = refl
last_repeated true (suc (suc n)) x y some =
    let long = counted true (suc n) x y in
    get-following (x ∷ y ∷ []) (repeat (suc n) (x ∷ y ∷ [])) _ (length (repeat (suc n) (x ∷ y ∷ [])) - 1)
    (omega (arith, long))
    ∙ last_repeated true (suc n) x y (omega arith)
last_repeated false (suc (suc n)) x y some =
    let long = counted false (suc n) x y in
    get-following (x ∷ []) (repeat (suc n) (x ∷ [])) _ (length (repeat (suc n) (x ∷ [])) - 1)
    (omega (arith, long))
    ∙ last_repeated false (suc n) x y (omega arith)

-- the last row of all is the last run's
last_at : (runs : List RowRun) (i : ℕ) (d : RowRun) → AreRuns runs → i + 1 ≡ length runs
    → slice_get (rows_in runs) (length (rows_in runs) - 1)
    ≡ Some (last_row (get_or runs i d).turn (get_or runs i d).worker)
last_at [] i d are last = absurd (omega (arith, last))
last_at (r ∷ []) zero d are last =
    let some = are.0 in
    ap (λ (l : List Row). slice_get l (length l - 1)) (append-nil (repeat r.times (rows_of r.turn r.worker)))
    ∙ last_repeated (is_round r.turn) r.times (first_row r.turn r.worker) (collector_row r.worker) (omega (arith, some))
last_at (r ∷ s ∷ runs) zero d are last = absurd (omega (arith, last))
last_at (r ∷ runs) (suc i) d are last =
    let fits = runs_fit runs are.1 in
    let rows = repeat r.times (rows_of r.turn r.worker) in
    let both = length-append rows (rows_in runs) in
    get-following rows (rows_in runs) (length (rows_in (r ∷ runs)) - 1)
    (length (rows_in runs) - 1) (omega (arith, fits, both, last))
    ∙ last_at runs i d are.1 (omega (arith, last))

-- so many rows a run has
run-length : (run : RowRun) → length (repeat run.times (rows_of run.turn run.worker)) ≡ rows_count run
run-length run = counted (is_round run.turn) run.times (first_row run.turn run.worker) (collector_row run.worker)

-- rows that were passed are of the first run, so some are left
within : (passed : ℕ) (runs : List RowRun) → IsWithin passed runs → 0 < length runs → passed < length (rows_in runs)
within passed [] inside some = absurd (omega (arith, some))
within passed (r ∷ runs) inside some =
    let first = run-length r in
    let both = length-append (repeat r.times (rows_of r.turn r.worker)) (rows_in runs) in
    omega (arith, inside, first, both)

-- the last row that is left
pub last_left : (passed : ℕ) (runs : List RowRun) (i : ℕ) (d : RowRun) → AreRuns runs → IsWithin passed runs
    → i + 1 ≡ length runs
    → Some (last_row (get_or runs i d).turn (get_or runs i d).worker)
    ≡ slice_get (drop passed (rows_in runs)) (length (drop passed (rows_in runs)) - 1)
last_left passed runs i d are inside last =
    let lt = within passed runs inside (omega (arith, last)) in
    let left = length-drop passed (rows_in runs) in
    sym
    (get-drop passed (rows_in runs) (length (rows_in runs) - 1) (length (drop passed (rows_in runs)) - 1)
    (omega (arith, lt, left))
    ∙ last_at runs i d are last)

-- so one at least is left
pub some_left : (passed count : ℕ) (runs : List RowRun) → AreLeft passed count runs → 1 ≤ length runs → 1 ≤ count
some_left passed count runs left some =
    let lt = within passed runs left.inside (omega (arith, some)) in omega (arith, lt, left.all)

-- of rows again and again, the one after so many
at_repeated : (b : Bool) (p n : ℕ) (x y : Row) (rows : List Row) → p < (if b then n + n else n)
    → drop p (repeat n (x ∷ (if b then y ∷ [] else [])) ++ rows)
    ≡ (if p % 2 == 0 then x else if b then y else x) ∷ drop (suc p) (repeat n (x ∷ (if b then y ∷ [] else [])) ++ rows)
at_repeated true p zero x y rows inside = absurd (omega (arith, inside))
at_repeated true zero (suc n) x y rows inside = refl
at_repeated true (suc zero) (suc n) x y rows inside = refl
at_repeated true (suc (suc p)) (suc n) x y rows inside =
    let even : p % 2 ≡ suc (suc p) % 2 = omega arith in
    at_repeated true p n x y rows (omega (arith, inside))
    ∙ ap (λ m. (if m == 0 then x else y) ∷ drop (suc p) (repeat n (x ∷ y ∷ []) ++ rows)) even
at_repeated false p zero x y rows inside = absurd (omega (arith, inside))
at_repeated false zero (suc n) x y rows inside = refl
at_repeated false (suc p) (suc n) x y rows inside =
    at_repeated false p n x y rows (omega (arith, inside))
    ∙ ap (λ row. row ∷ drop (suc p) (repeat n (x ∷ []) ++ rows)) (either (p % 2 == 0) ∙ sym (either (suc p % 2 == 0)))
  where
    either : (even : Bool) → (if even then x else x) ≡ x
    either true = refl
    either false = refl

-- of rows that are left, the next is of the first run
pub next_row : (passed : ℕ) (runs : List RowRun) (d : RowRun) → IsWithin passed runs → 1 ≤ length runs
    → drop passed (rows_in runs) ≡ row_after (get_or runs 0 d) passed ∷ drop (passed + 1) (rows_in runs)
next_row passed [] d inside some = absurd (omega (arith, some))
next_row passed (run ∷ runs) d inside some =
    let more : suc passed ≡ passed + 1 = omega arith in
    at_repeated (is_round run.turn) passed run.times (first_row run.turn run.worker) (collector_row run.worker)
    (rows_in runs) inside
    ∙ ap (λ n. row_after run passed ∷ drop n (rows_in (run ∷ runs))) more

pub within_first : (passed : ℕ) (runs : List RowRun) (d : RowRun) → IsWithin passed runs → 1 ≤ length runs
    → passed < rows_count (get_or runs 0 d)
within_first passed [] d inside some = absurd (omega (arith, some))
within_first passed (run ∷ runs) d inside some = inside

-- after a run
pub after_run : (n : ℕ) (runs : List RowRun) (d : RowRun) → 1 ≤ length runs → n ≡ rows_count (get_or runs 0 d)
    → drop n (rows_in runs) ≡ rows_in (drop 1 runs)
after_run n [] d some e = absurd (omega (arith, some))
after_run n (run ∷ runs) d some e = drop_at (repeat run.times (rows_of run.turn run.worker)) (rows_in runs) n
    (run-length run ∙ sym e)

-- after a row that isn't its run's last
pub left_in_run : (passed count : ℕ) (runs : List RowRun) (d : RowRun) → AreLeft passed count runs → 1 ≤ length runs
    → passed + 1 < rows_count (get_or runs 0 d) → AreLeft (passed + 1) (count - 1) runs
left_in_run passed count [] d left some more = absurd (omega (arith, some))
left_in_run passed count (run ∷ runs) d left some more =
    let one = some_left passed count (run ∷ runs) left some in
    record { sound = left.sound; inside = more; all = omega (arith, one, left.all) }

some_rows : (b : Bool) (n : ℕ) → 1 ≤ n → 0 < (if b then n + n else n)
some_rows true n some = omega (arith, some)
some_rows false n some = omega (arith, some)

none_passed : (runs : List RowRun) → AreRuns runs → IsWithin 0 runs
none_passed [] are = omega arith
none_passed (run ∷ runs) are = some_rows (is_round run.turn) run.times are.0

left_then : (passed count : ℕ) (runs : List RowRun) (d : RowRun) → AreLeft passed count runs → 1 ≤ length runs
    → passed + 1 ≡ rows_count (get_or runs 0 d) → AreLeft 0 (count - 1) (drop 1 runs)
left_then passed count [] d left some all = absurd (omega (arith, some))
left_then passed count (run ∷ runs) d left some all =
    let first = run-length run in
    let both = length-append (repeat run.times (rows_of run.turn run.worker)) (rows_in runs) in
    record {
      sound = left.sound.1;
      inside = none_passed runs left.sound.1;
      all = omega (arith, first, both, all, left.all);
    }

-- after the last one
pub left_after_run : (passed count : ℕ) (runs : List RowRun) (d : RowRun) → AreLeft passed count runs
    → 1 ≤ length runs → passed + 1 ≡ rows_count (get_or runs 0 d)
    → AreLeft 0 (count - 1) (take (length runs - 1) (drop 1 runs))
left_after_run passed count runs d left some all =
    subst (λ (rest : List RowRun). AreLeft 0 (count - 1) rest) (sym (take_rest runs 1))
    (left_then passed count runs d left some all)
