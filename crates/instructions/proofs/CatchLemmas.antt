-- What frames do with a throwable by the numbers of classes is what they do by names.
use Rattle.std.proofs.Common.{◌≡◌, ◌+◌, ℕ, zero, suc, List, [], ◌∷◌, ◌++◌, length, map, slice_get, Bool, true, false}
use Rattle.std.proofs.Common.{◌&&◌, ◌||◌, not, Option, Some, None, refl, ap, sym, ◌∙◌, arith}
use Rattle.std.specs.Prelude.{cond, nat_le, nat_lt, codes}
use Rattle.std.specs.List.{find, list_any}
use Rattle.std.specs.Option.{option_and_then, option_map}
use Rattle.std.specs.Str.{bytes_eq}
use Rattle.std.proofs.lemmas.Option.{slice_get-map}
use Rattle.std.proofs.lemmas.Slice.Eq.{bytes_eq-Decides}
use Rattle.model.specs.declared.listings.ExceptionRow.{ExceptionRow}
use Rattle.model.specs.declared.listings.Method.{Method}
use Rattle.model.specs.declared.places.MethodPlace.{MethodPlace}
use Rattle.model.specs.declared.turns.Mark.{Mark}
use Rattle.model.specs.declared.turns.Mark.TheVariants.{Unmarked, Waiting, Failing}
use Rattle.model.specs.Accepted.ExceptionRows.{has_bad_row, has_bad_row_in, is_bad_row, is_no_throwable}
use Rattle.model.specs.Accepted.Refusals.{refusal_of}
use Rattle.model.specs.ClassListings.{ClassListing}
use Rattle.model.specs.CodeListings.{CodeListing}
use Rattle.model.specs.Classes.Named.{class_named, or_else, parents_named}
use Rattle.model.specs.Classes.Subclasses.{enough_steps, is_subclass, is_within}
use Rattle.model.specs.Classes.Types.{Element, element_of, is_subtype, is_subtype_within, types_compare}
use Rattle.model.specs.Classes.Builtin.{builtin_classes}
use Rattle.model.specs.Frames.{Frame}
use Rattle.model.specs.Initialisation.{runs_initializer}
use Rattle.model.specs.Programs.{method_at, method_in}
use Rattle.model.specs.Unwinding.{fits, handler_in, handler_of, responds, response_of, takes}
use Rattle.frames.specs.Heads.{head_of}
use Rattle.resolve.specs.Numbers.{all_classes, class_names}
use Rattle.linking.specs.declared.method_tables.Row.{Row}
use Rattle.linking.specs.ClassTables.{class_facts, class_tables, is_below, is_subtype_in}
use Rattle.linking.specs.MethodFacts.{MethodFacts}
use Rattle.linking.specs.MethodTables.{catch_of, row_of, rows_of}
use Rattle.linking.proofs.ClassTableLemmas.{name-at, subtype-names}
use Rattle.linking.proofs.RunLemmas.{all_rows_fit}
use Rattle.instructions.specs.declared.kinds.Kind.{Kind}
use Rattle.instructions.specs.declared.kinds.Kind.TheVariants.{Instance, Array}
use Rattle.instructions.specs.MethodsByNumber.{facts_in}
use Rattle.instructions.specs.Shown.{kind_name, name_or_none}
use Rattle.instructions.specs.Throwing.{IsThrown, answer_by, answers, handler_by, handler_in_facts, handler_in_rows}
use Rattle.instructions.specs.Throwing.{is_kind_below, is_throwable, response_as, row_fits, takes_kind}
use Rattle.instructions.specs.Throwing.IsThrown.{thrown}
use Rattle.instructions.proofs.ByNumberLemmas.{HasNumber, number-names, number-of, number-place}
use Rattle.instructions.proofs.CodeResolves.{and_then-some, in_methods, neither, none-found-at, was-not}
use Rattle.instructions.proofs.MethodLemmas.{Reported, method-reported}
use Rattle.instructions.proofs.MethodLemmas.Reported.{Facts, Nothing}

-- ---- a class is below another, by numbers and by names

-- of a class whose name is no array's a subtype is a subclass
plain_compare : (classes object : Bool) (elements : List ℕ → List ℕ → Bool) (element other : _) → element ≡ None
    → types_compare classes object elements element other ≡ classes
plain_compare classes object elements element other none = rw none refl

subtype_within : (steps : ℕ) (program : List ClassListing) (name above : List ℕ) → element_of name ≡ None
    → is_subtype_within (suc steps) program name above ≡ is_subclass program name above
unfolding is_subtype_within
subtype_within steps program name above plain =
    plain_compare (is_subclass program name above) (bytes_eq above (codes "java/lang/Object"))
    (λ n m. is_subtype_within steps program n m) (element_of name) (element_of above) plain

pub subtype_subclass : (program : List ClassListing) (name above : List ℕ) → element_of name ≡ None
    → is_subtype program name above ≡ is_subclass program name above
subtype_subclass program name above plain =
    let more : length name + 1 ≡ suc (length name) = omega arith in
    ap (λ n. is_subtype_within n program name above) more ∙ subtype_within (length name) program name above plain

-- what is below Throwable is a class that there is
named_within : (steps : ℕ) (program : List ClassListing) (name above : List ℕ) → class_named program name ≡ None
    → is_within (suc steps) program name above ≡ true → name ≡ above
unfolding is_within
named_within steps program name above none e = by (bytes_eq name above) refl e
  where
    by : (b : Bool) → bytes_eq name above ≡ b
        → (b || list_any (λ parent. is_within steps program parent above) (parents_named program name)) ≡ true
        → name ≡ above
    by true is k = (bytes_eq-Decides name above).0 is
    by false is k = absurd (let empty : list_any (λ parent. is_within steps program parent above)
        (parents_named program name) ≡ false = rw none refl in cc)

is_some_else : {A : Type 0} (o : Option A) (x : A) → or_else o (Some x) ≡ None → ⊥
is_some_else None x e = cc
is_some_else (Some y) x e = cc

throwable_there : (program : List ClassListing) → class_named program (codes "java/lang/Throwable") ≡ None → ⊥
unfolding builtin_classes
throwable_there program e = is_some_else _ _ e

catch_number : (program : List ClassListing) (name : List ℕ) → is_no_throwable program (Some name) ≡ false
    → HasNumber program name
catch_number program name e = by (class_named program name) refl
  where
    by : (o : Option ClassListing) → class_named program name ≡ o → HasNumber program name
    by (Some c) is = number-of program name c is
    by None is =
        let more : enough_steps program ≡ suc (length program + 22) = omega arith in
        let below : is_within (suc (length program + 22)) program name (codes "java/lang/Throwable") ≡ true =
        ap (λ n. is_within n program name (codes "java/lang/Throwable")) (sym more)
        ∙ was-not (is_subclass program name (codes "java/lang/Throwable")) e in
        let same = named_within (length program + 22) program name (codes "java/lang/Throwable") is below in
        absurd (throwable_there program (ap (class_named program) (sym same) ∙ is))

-- ---- one of the machine's own classes stands after the program's

own-at : (program : List ClassListing) (place : ℕ) → slice_get (class_names program) (length program + place)
    ≡ slice_get (map (λ (c : ClassListing). c.name) builtin_classes) place
own-at program place = following program (length program + place) refl
  where
    following : (cs : List ClassListing) (n : ℕ) → n ≡ length cs + place
        → slice_get (map (λ (c : ClassListing). c.name) cs ++ map (λ (c : ClassListing). c.name) builtin_classes) n
        ≡ slice_get (map (λ (c : ClassListing). c.name) builtin_classes) place
    following [] n e = let at : n ≡ place = omega (arith, e)
        in ap (slice_get (map (λ (c : ClassListing). c.name) builtin_classes)) at
    following (c ∷ cs) zero e = absurd (omega (arith, e))
    following (c ∷ cs) (suc n) e = following cs n (omega (arith, e))

error-at : (program : List ClassListing) → slice_get (class_names program) (length program + 3)
    ≡ Some (codes "java/lang/Error")
unfolding builtin_classes
error-at program = own-at program 3

-- a number past the last class is of nothing below
pub class-nowhere : (program : List ClassListing) (class above : ℕ) → slice_get (all_classes program) class ≡ None
    → is_subtype_in (class_tables program) class above ≡ false
class-nowhere program class above none =
    ap (is_below above) (slice_get-map (class_facts program) (all_classes program) class
    ∙ ap (option_map (class_facts program)) none)

-- ---- a kind that can be thrown

module _ (program : List ClassListing) (class : ℕ) (listing : ClassListing) (there : slice_get (all_classes program)
    class ≡ Some listing)
    (plain : element_of listing.name ≡ None) (accepted : refusal_of program ≡ None) where
  abbrev kind : Kind
  kind = Instance class

  abbrev name : List ℕ
  name = kind_name program kind

  name_is : name ≡ listing.name
  name_is = ap name_or_none (name-at program class ∙ ap (option_map (λ (c : ClassListing). c.name)) there)

  below_is : (n : ℕ) (above : List ℕ) → slice_get (class_names program) n ≡ Some above → is_kind_below program kind n
      ≡ is_subclass program name above
  below_is n above at =
      subtype-names program class n listing above there at ∙ subtype_subclass program listing.name above plain
      ∙ ap (λ n. is_subclass program n above) (sym name_is)

  takes_is : (catch : Option (List ℕ)) → is_no_throwable program catch ≡ false
      → takes_kind program kind (catch_of program catch) ≡ takes program name catch
  takes_is None e = refl
  takes_is (Some above) e =
      let number = catch_number program above e in
      ap (λ n. is_kind_below program kind n) (number-place program above number.number number.is)
      ∙ below_is number.number above (number-names program above number.number number.is)

  rows_are : (pc : ℕ) (code : CodeListing) (rows : List ExceptionRow) → list_any (is_bad_row program code) rows ≡ false
      → handler_in_rows program kind pc (map (row_of program) rows) ≡ option_map (λ (row : ExceptionRow). row.handler)
      (find (fits program name pc) rows)
  rows_are pc code [] e = refl
  rows_are pc code (row ∷ rows) e =
      let good = neither (is_bad_row program code row) (list_any (is_bad_row program code) rows) e in
      let throwable = (neither _ (is_no_throwable program row.class) good.0).1 in
      ap (λ b. option_map (λ (row : Row). row.handler) (cond (nat_le row.start pc && nat_lt pc row.end && b)
      (Some (row_of program row)) (find (row_fits program kind pc) (map (row_of program) rows))))
      (takes_is row.class throwable)
      ∙ by (fits program name pc row) (rows_are pc code rows good.1)
    where
      by : (b : Bool) → handler_in_rows program kind pc (map (row_of program) rows)
          ≡ option_map (λ (row : ExceptionRow). row.handler) (find (fits program name pc) rows)
          → option_map (λ (row : Row). row.handler)
          (cond b (Some (row_of program row)) (find (row_fits program kind pc) (map (row_of program) rows)))
          ≡ option_map (λ (row : ExceptionRow). row.handler) (cond b (Some row) (find (fits program name pc) rows))
      by true rest = refl
      by false rest = rest

  abbrev has_bad : Method → Bool
  has_bad m = has_bad_row_in program m.code

  good_methods : (n : ℕ) (c : ClassListing) → slice_get program n ≡ Some c → list_any has_bad c.methods ≡ false
  unfolding has_bad_row
  good_methods n c e = none-found-at (has_bad_row program) program n c (all_rows_fit program accepted) e

  good_method : (place : MethodPlace) (m : Method) → method_at program place ≡ Some m → has_bad m ≡ false
  good_method place m e =
      let class = and_then-some (λ (c : ClassListing). method_in c place.method) (slice_get program place.class) m e in
      in_methods has_bad refl class.0 place.method m (good_methods place.class class.0 class.1) class.2

  code_is : (pc : ℕ) (code : Option CodeListing) → has_bad_row_in program code ≡ false
      → handler_in_rows program kind pc (rows_of program code) ≡ handler_in program name pc code
  code_is pc None e = refl
  code_is pc (Some code) e = rows_are pc code code.rows e

  facts_are : (place : MethodPlace) (pc : ℕ) (facts : Option MethodFacts) (m : Option Method)
      → Reported program place facts m → method_at program place ≡ m
      → handler_in_facts program kind pc facts ≡ handler_in program name pc (option_and_then (λ (m : Method). m.code) m)
  facts_are place pc _ _ Nothing is = refl
  facts_are place pc _ _ (Facts class m) is = code_is pc m.code (good_method place m is)

  handler_is : (f : Frame) (mark : Mark) → handler_by program kind (head_of f) mark ≡ handler_of program name f mark
  handler_is f Unmarked = facts_are f.method f.pc (facts_in program f.method) (method_at program f.method)
      (method-reported program f.method) refl
  handler_is f Waiting = refl
  handler_is f Failing = refl

  answers_as : (handler : Option ℕ) (fails : Bool) → response_as (answers handler fails) ≡ responds handler fails
  answers_as (Some handler) fails = refl
  answers_as None true = refl
  answers_as None false = refl

  pub answer_is : (f : Frame) → response_as (answer_by program kind (head_of f)) ≡ response_of program name f
  answer_is f =
      answers_as (handler_by program kind (head_of f) f.mark) (runs_initializer program f
      && not (is_kind_below program kind (length program + 3)))
      ∙ ap (λ handler. responds handler (runs_initializer program f
      && not (is_kind_below program kind (length program + 3)))) (handler_is f f.mark)
      ∙ ap (λ error. responds (handler_of program name f f.mark) (runs_initializer program f && not error))
      (below_is (length program + 3) (codes "java/lang/Error") (error-at program))

-- of whatever can be thrown
pub thrown_answers : (program : List ClassListing) (kind : Kind) → refusal_of program ≡ None → IsThrown program kind
    → (f : Frame)
    → response_as (answer_by program kind (head_of f)) ≡ response_of program (kind_name program kind) f
thrown_answers program _ accepted (thrown class listing there plain) f = answer_is program class listing there plain
    accepted f

-- ---- what athrow may throw

pub throwable-at : (program : List ClassListing) → slice_get (class_names program) (length program + 1)
    ≡ Some (codes "java/lang/Throwable")
unfolding builtin_classes
throwable-at program = own-at program 1

-- an array is no Throwable
compare_array : (classes object : Bool) (elements : List ℕ → List ℕ → Bool) (element : Option Element) → object ≡ false
    → types_compare classes object elements element None ≡ true → element ≡ None
compare_array classes object elements None other e = refl
compare_array classes object elements (Some element) other e = cc

throwable_within : (steps : ℕ) (program : List ClassListing) (name : List ℕ)
    → is_subtype_within (suc steps) program name (codes "java/lang/Throwable") ≡ true
    → element_of name ≡ None
unfolding is_subtype_within
throwable_within steps program name e =
    compare_array (is_subclass program name (codes "java/lang/Throwable"))
    (bytes_eq (codes "java/lang/Throwable") (codes "java/lang/Object"))
    (λ n m. is_subtype_within steps program n m) (element_of name) refl e

pub throwable_plain : (program : List ClassListing) (name : List ℕ)
    → is_subtype program name (codes "java/lang/Throwable") ≡ true → element_of name ≡ None
throwable_plain program name e =
    let more : suc (length name) ≡ length name + 1 = omega arith in
    throwable_within (length name) program name
    (ap (λ n. is_subtype_within n program name (codes "java/lang/Throwable")) more ∙ e)

pub throwable-thrown : (program : List ClassListing) (kind : Kind) → is_throwable program kind ≡ true
    → IsThrown program kind
throwable-thrown program (Array type) e = cc
throwable-thrown program (Instance class) e = by (slice_get (all_classes program) class) refl
  where
    by : (o : Option ClassListing) → slice_get (all_classes program) class ≡ o → IsThrown program (Instance class)
    by None is =
        let none : is_throwable program (Instance class) ≡ false = class-nowhere program class (length program + 1) is
        in cc
    by (Some listing) is =
        thrown class listing is
        (throwable_plain program listing.name
        (sym (subtype-names program class (length program + 1) listing (codes "java/lang/Throwable") is
        (throwable-at program)) ∙ e))
