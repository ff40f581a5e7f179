-- The lists of superinterfaces, each name once.
use Rattle.std.proofs.Common.{◌≡◌, inl, inr, ℕ, zero, suc, ◌+◌, List, [], ◌∷◌, ◌++◌, get_or, slice_get, take, drop}
use Rattle.std.proofs.Common.{length, ◌<◌, ◌≤◌, Bool, true, false, cond, not, ◌&&◌, ◌||◌, Option, Some, None, is_none}
use Rattle.std.proofs.Common.{is_some, refl, sym, ap, subst, ◌∙◌, arith}
use Rattle.std.specs.List.{find, flat_map, list_all, list_any}
use Rattle.std.specs.Option.{option_map}
use Rattle.std.specs.Str.{bytes_eq}
use Rattle.std.proofs.lemmas.Grind.{flat_map-append}
use Rattle.std.proofs.lemmas.List.{drop_more}
use Rattle.std.proofs.lemmas.Slice.Eq.{bytes_eq-Decides}
use Rattle.model.specs.ClassListings.{ClassListing}
use Rattle.model.specs.Accepted.Cycles.{is_on_cycle}
use Rattle.model.specs.Classes.Builtin.{builtin_classes}
use Rattle.model.specs.Classes.Named.{is_named, listed, parents_of}
use Rattle.model.specs.Classes.Search.{interfaces_from, interfaces_in, interfaces_named}
use Rattle.model.specs.Classes.Subclass.{HasName}
use Rattle.model.specs.Classes.Subclasses.{enough_steps}
use Rattle.resolve.specs.Interfaces.{AreFirst, AreFull, AreLists, Ends, IsAcyclic, IsEntry, Lists, all_following}
use Rattle.resolve.specs.Interfaces.{interfaces_once, is_class_ready, is_ready, is_settled, missing, with_list}
use Rattle.resolve.specs.Interfaces.Ends.{ends}
use Rattle.resolve.specs.Reached.{has_name, with_name, with_names}
use Rattle.resolve.proofs.IndexLemmas.{slice-there, take-next}
use Rattle.resolve.proofs.AcyclicLemmas.{ends-apart, enough, named-listed, parents-listed, rank, rank-less}
use Rattle.resolve.proofs.ListLemmas.{all-of, and-false, and-left, and-right, both-true, count-less, found-any}
use Rattle.resolve.proofs.ListLemmas.{none-fails, not-all}
use Rattle.resolve.proofs.ParentLemmas.{interfaces_named-listed}
use Rattle.resolve.proofs.ReachedLemmas.{adds_all, has-HasName, HasName-has, names-append, once, or-right}

-- ---- a name that comes again adds nothing

nothing-new : (names more : List (List ℕ)) → ((x : List ℕ) → HasName more x → HasName names x)
    → with_names names more ≡ names
nothing-new names [] there = refl
nothing-new names (x ∷ xs) there =
    rw (HasName-has names x (there x (inl refl))) (nothing-new names xs (λ y h. there y (inr h)))

in-first : (xs ys : List (List ℕ)) (x : List ℕ) → HasName xs x → HasName (xs ++ ys) x
in-first [] ys x h = absurd h
in-first (y ∷ xs) ys x (inl e) = inl e
in-first (y ∷ xs) ys x (inr h) = inr (in-first xs ys x h)

in-second : (xs ys : List (List ℕ)) (x : List ℕ) → HasName ys x → HasName (xs ++ ys) x
in-second [] ys x h = h
in-second (y ∷ xs) ys x h = inr (in-second xs ys x h)

module _ (lists : Lists) where
  in-following : (names : List (List ℕ)) (name x : List ℕ) → HasName names name
      → HasName (with_list name (lists name)) x → HasName (all_following lists names) x
  in-following [] name x h there = absurd h
  in-following (y ∷ ys) name x (inl e) there =
      in-first (with_list y (lists y)) (all_following lists ys) x
      (subst (λ (z : List ℕ). HasName (with_list z (lists z)) x) (sym e) there)
  in-following (y ∷ ys) name x (inr h) there =
      in-second (with_list y (lists y)) (all_following lists ys) x (in-following ys name x h there)

  one-more-following : (found names : List (List ℕ)) (x : List ℕ) (there : Bool) → has_name names x ≡ there
      → with_names found (all_following lists (with_name names x))
      ≡ with_names (with_names found (all_following lists names)) (with_list x (lists x))
  one-more-following found names x true e =
      rw e (sym (nothing-new (with_names found (all_following lists names)) (with_list x (lists x))
      (λ y h. (adds_all found (all_following lists names)).holds y
      (in-following names x y (has-HasName names x e) h))))
  one-more-following found names x false e =
      rw e (ap (with_names found) (flat_map-append (λ name. with_list name (lists name)) names (x ∷ []))
      ∙ names-append found (all_following lists names) (with_list x (lists x) ++ [])
      ∙ ap (with_names (with_names found (all_following lists names))) (append-nothing (with_list x (lists x))))
    where
      append-nothing : (xs : List (List ℕ)) → xs ++ [] ≡ xs
      append-nothing [] = refl
      append-nothing (y ∷ ys) = ap (λ zs. y ∷ zs) (append-nothing ys)

  following-from : (found names more : List (List ℕ))
      → with_names found (all_following lists (with_names names more))
      ≡ with_names (with_names found (all_following lists names)) (all_following lists more)
  following-from found names [] = refl
  following-from found names (x ∷ xs) =
      following-from found (with_name names x) xs
      ∙ ap (λ (all : List (List ℕ)). with_names all (all_following lists xs))
      (one-more-following found names x (has_name names x) refl)
      ∙ sym (names-append (with_names found (all_following lists names)) (with_list x (lists x)) (all_following lists xs))

  -- names that stand there once lead to what all of them lead to
  pub following-once : (names : List (List ℕ)) → with_names [] (all_following lists (with_names [] names))
      ≡ with_names [] (all_following lists names)
  following-once names = following-from [] [] names

-- ---- adding an interface with its list

from-nothing : (steps : ℕ) (program : List ClassListing) → interfaces_from steps program [] ≡ []
unfolding interfaces_from
from-nothing zero program = refl
from-nothing (suc steps) program = refl

pub list-is : (steps : ℕ) (program : List ClassListing) (name : List ℕ) (list : List (List ℕ))
    → Some list ≡ option_map (interfaces_once steps program) (listed program name)
    → list ≡ with_names [] (interfaces_from steps program (interfaces_named program name))
list-is steps program name list found = by (listed program name) (interfaces_named-listed program name) found
  where
    by : (class : Option ClassListing) → interfaces_named program name ≡ interfaces_in class → Some list
        ≡ option_map (interfaces_once steps program) class
        → list ≡ with_names [] (interfaces_from steps program (interfaces_named program name))
    by None e found = cc
    by (Some c) e found = rw e cc

pub none-is : (steps : ℕ) (program : List ClassListing) (name : List ℕ)
    → None ≡ option_map (interfaces_once steps program) (listed program name)
    → interfaces_from steps program (interfaces_named program name) ≡ []
none-is steps program name found = by (listed program name) (interfaces_named-listed program name) found
  where
    by : (class : Option ClassListing) → interfaces_named program name ≡ interfaces_in class
        → None ≡ option_map (interfaces_once steps program) class
        → interfaces_from steps program (interfaces_named program name) ≡ []
    by None e found = rw e (from-nothing steps program)
    by (Some c) e found = cc

-- ---- a list made of those of the superinterfaces

abbrev After : ℕ → List ClassListing → List ℕ → List (List ℕ)
After steps program name = name ∷ interfaces_from steps program (interfaces_named program name)

module _ (program : List ClassListing) (acyclic : IsAcyclic program) where
  abbrev steps : ℕ
  steps = enough_steps program

  with-entry : (names : List (List ℕ)) (name : List ℕ) (list : Option (List (List ℕ))) → IsEntry program name list
      → (is_some list || is_none (listed program name)) ≡ true → with_names names (with_list name list)
      ≡ with_names names (After steps program name)
  with-entry names name None entry settled =
      ap (λ (more : List (List ℕ)). with_names names (name ∷ more))
      (sym (none-is steps program name
      (sym (ap (option_map (interfaces_once steps program)) (unlisted (listed program name) settled)))))
    where
      unlisted : (c : Option ClassListing) → is_none c ≡ true → c ≡ None
      unlisted None h = refl
      unlisted (Some c) h = cc
  with-entry names name (Some list) entry settled =
      ap (with_names (with_name names name)) (list-is steps program name list (entry.1 acyclic))
      ∙ once (with_name names name) (interfaces_from steps program (interfaces_named program name))

  with-entries : (lists : Lists) (names more : List (List ℕ)) → AreLists program lists
      → list_all (is_settled program lists) more ≡ true
      → with_names names (flat_map (λ name. with_list name (lists name)) more)
      ≡ with_names names (flat_map (After steps program) more)
  with-entries lists names [] are settled = refl
  with-entries lists names (x ∷ more) are settled =
      names-append names (with_list x (lists x)) (flat_map (λ name. with_list name (lists name)) more)
      ∙ ap (λ (ns : List (List ℕ)). with_names ns (flat_map (λ name. with_list name (lists name)) more))
      (with-entry names x (lists x) (are x)
      (and-left (is_settled program lists x) (list_all (is_settled program lists) more) settled))
      ∙ with-entries lists (with_names names (After steps program x)) more are
      (and-right (is_settled program lists x) (list_all (is_settled program lists) more) settled)
      ∙ sym (names-append names (After steps program x) (flat_map (After steps program) more))

  made-right : (lists : Lists) (name : List ℕ) (c : ClassListing) (list : List (List ℕ)) → AreLists program lists
      → Some c ≡ listed program name
      → list_all (is_settled program lists) c.interfaces ≡ true
      → list ≡ with_names [] (flat_map (λ name. with_list name (lists name)) c.interfaces)
      → Some list ≡ option_map (interfaces_once steps program) (listed program name)
  made-right lists name c list are is settled made =
      let own : interfaces_named program name ≡ c.interfaces = interfaces_named-listed program name ∙ ap
      interfaces_in (sym is) in
      ap (λ (l : List (List ℕ)). Some l)
      (made ∙ with-entries lists [] c.interfaces are settled
      ∙ ap (λ (names : List (List ℕ)). with_names [] (flat_map (After steps program) names)) (sym own)
      ∙ ap (with_names []) (enough program acyclic name)
      ∙ ap (λ (names : List (List ℕ)). with_names [] (interfaces_from steps program names)) own)
      ∙ ap (option_map (interfaces_once steps program)) is

-- ---- the interfaces that are left

drop-all : (names : List (List ℕ)) (n : ℕ) → length names ≤ n → drop n names ≡ []
drop-all [] zero h = refl
drop-all [] (suc n) h = refl
drop-all (x ∷ xs) zero h = absurd (omega arith)
drop-all (x ∷ xs) (suc n) h = drop-all xs n (omega arith)

module _ (lists : Lists) where
  pub next-following : (found names : List (List ℕ)) (n : ℕ) (name : List ℕ) → name ≡ get_or names n name
      → n < length names
      → with_names (with_names found (with_list name (lists name))) (all_following lists (drop (n + 1) names))
      ≡ with_names found (all_following lists (drop n names))
  next-following found names n name is inside =
      sym (names-append found (with_list name (lists name)) (all_following lists (drop (n + 1) names)))
      ∙ ap (λ (ns : List (List ℕ)). with_names found (all_following lists ns))
      (sym (drop_more names n name inside ∙ ap (λ x. x ∷ drop (n + 1) names) (sym is)))

  pub none-following : (found names : List (List ℕ)) (n : ℕ) → length names ≤ n
      → found ≡ with_names found (all_following lists (drop n names))
  none-following found names n over = ap (λ (ns : List (List ℕ)). with_names found (all_following lists ns))
      (sym (drop-all names n over))

-- ---- a list more

module _ (program : List ClassListing) (lists : Lists) where
  entry-ends : (name : List ℕ) (list : Option (List (List ℕ))) → IsEntry program name list → is_some list ≡ true
      → Ends program name
  entry-ends name None entry there = cc
  entry-ends name (Some list) entry there = entry.0

  listed-settled : (list : Option (List (List ℕ))) (c : Option ClassListing) → (is_some list || is_none c) ≡ true
      → is_some c ≡ true → is_some list ≡ true
  listed-settled None None settled there = cc
  listed-settled None (Some c) settled there = cc
  listed-settled (Some list) c settled there = refl

  ready-is : (name : List ℕ) (c : ClassListing) → Some c ≡ listed program name → is_ready program lists name ≡ true
      → (is_none (lists name) && list_all (is_settled program lists) (parents_of c)) ≡ true
  ready-is name c is ready = subst (λ (o : Option ClassListing). is_class_ready program lists name o ≡ true) (sym is)
      ready

  ready-none : (name : List ℕ) (c : ClassListing) → Some c ≡ listed program name → is_ready program lists name ≡ true
      → is_none (lists name) ≡ true
  ready-none name c is ready = and-left (is_none (lists name)) (list_all (is_settled program lists) (parents_of c))
      (ready-is name c is ready)

  ready-settled : (name : List ℕ) (c : ClassListing) → Some c ≡ listed program name → is_ready program lists name ≡ true
      → list_all (is_settled program lists) (parents_of c) ≡ true
  ready-settled name c is ready = and-right (is_none (lists name)) (list_all (is_settled program lists) (parents_of c))
      (ready-is name c is ready)

  ready-ends : AreLists program lists → (name : List ℕ) (c : ClassListing) → Some c ≡ listed program name
      → is_ready program lists name ≡ true → Ends program name
  ready-ends are name c is ready =
      ends (λ p h there.
      entry-ends p (lists p) (are p)
      (listed-settled (lists p) (listed program p)
      (all-of (is_settled program lists) (parents_of c) p (ready-settled name c is ready)
      (subst (λ (names : List (List ℕ)). HasName names p) (parents-listed program name c is) h))
      there))

  module _ (more : Lists) (name : List ℕ) (c : ClassListing) (list : List (List ℕ)) (is : Some c ≡ listed program name)
      (ready : is_ready program lists name ≡ true)
      (updates : (x : List ℕ) → more x ≡ cond (bytes_eq name x) (Some list) (lists x)) where
    pub more-lists : AreLists program lists
        → list ≡ with_names [] (flat_map (λ name. with_list name (lists name)) c.interfaces) → AreLists program more
    more-lists are made x = subst (IsEntry program x) (sym (updates x)) (by (bytes_eq name x) refl)
      where
        entry : IsEntry program name (Some list)
        entry = (
          ready-ends are name c is ready,
          λ acyclic. made-right program acyclic lists name c list are is
              (and-right (is_settled program lists c.superclass) (list_all (is_settled program lists) c.interfaces)
              (ready-settled name c is ready)) made,
        )

        by : (b : Bool) → bytes_eq name x ≡ b → IsEntry program x (cond b (Some list) (lists x))
        by true e = subst (λ (n : List ℕ). IsEntry program n (Some list)) ((bytes_eq-Decides name x).0 e) entry
        by false e = are x

    pub fewer-missing : missing program more < missing program lists
    fewer-missing =
        count-less (λ (d : ClassListing). is_none (more d.name)) (λ (d : ClassListing). is_none (lists d.name))
        (λ d none. kept (bytes_eq name d.name) (lists d.name) (ap is_none (sym (updates d.name)) ∙ none))
        program
        (found-any (is_named name) (λ (d : ClassListing). is_none (lists d.name) && not (is_none (more d.name))) program
        c (sym is)
        (both-true (is_none (lists c.name)) (not (is_none (more c.name)))
        (ap (λ (n : List ℕ). is_none (lists n)) (named-listed program name c is) ∙ ready-none name c is ready)
        (ap (λ (n : List ℕ). not (is_none (more n))) (named-listed program name c is)
        ∙ ap (λ o. not (is_none o)) (updates name ∙ ap (λ b. cond b (Some list) (lists name))
        ((bytes_eq-Decides name name).1 refl)))))
      where
        kept : (b : Bool) (old : Option (List (List ℕ))) → is_none (cond b (Some list) old) ≡ true → is_none old ≡ true
        kept true old h = cc
        kept false old h = h

-- ---- where no class is ready, but none is above itself, each has its list

module _ (program : List ClassListing) (lists : Lists) (full : AreFull program lists) (acyclic : IsAcyclic program)
  where
    not-ready : (name : List ℕ) (c : ClassListing) → Some c ≡ listed program name
        → is_class_ready program lists name (Some c) ≡ false
    not-ready name c is =
        ap (is_class_ready program lists name) is
        ∙ ap (is_ready program lists) (sym (named-listed program name c is))
        ∙ none-fails (λ (c : ClassListing). is_ready program lists c.name) (is_named name) program c full (sym is)

    unsettled : (list : Option (List (List ℕ))) (c : Option ClassListing) → (is_some list || is_none c) ≡ false
        → (is_none list ≡ true) × ((d : ClassListing) × (Some d ≡ c))
    unsettled None None h = cc
    unsettled None (Some c) h = (refl, (c, refl))
    unsettled (Some list) c h = cc

    descent : (k : ℕ) (name : List ℕ) (c : ClassListing) → Some c ≡ listed program name → rank program name < k
        → is_none (lists name) ≡ true → ⊥
    descent zero name c is few none = omega (arith, few)
    descent (suc k) name c is few none =
        elim (and-false (is_none (lists name)) (list_all (is_settled program lists) (parents_of c))
        (not-ready name c is)) [
          | inl there ↦ differ (is_none (lists name)) none there
          | inr waiting ↦
              let found : (p : List ℕ) × HasName (parents_of c) p × (is_settled program lists p ≡ false) =
              not-all (is_settled program lists) (parents_of c) waiting in
              let open-parent : (is_none (lists found.0) ≡ true)
              × ((d : ClassListing) × (Some d ≡ listed program found.0)) =
              unsettled (lists found.0) (listed program found.0) found.2 in
              let less : rank program found.0 < rank program name =
              rank-less program acyclic name found.0 c is found.1 in
              descent k found.0 open-parent.1.0 open-parent.1.1 (omega (arith, less, few)) open-parent.0
        ]
      where
        differ : (b : Bool) → b ≡ true → b ≡ false → ⊥
        differ b p q = cc

    pub lists-are : AreLists program lists → (name : List ℕ) → lists name
        ≡ option_map (interfaces_once (enough_steps program) program) (listed program name)
    lists-are are name = by (lists name) refl (are name) (listed program name) refl
      where
        by : (list : Option (List (List ℕ))) → lists name ≡ list → IsEntry program name list → (c : Option ClassListing)
            → listed program name ≡ c
            → list ≡ option_map (interfaces_once (enough_steps program) program) c
        by None e entry None is = refl
        by None e entry (Some c) is = absurd (descent (suc (rank program name)) name c (sym is) (omega arith)
            (ap is_none e))
        by (Some list) e entry c is = entry.1 acyclic ∙ ap (option_map (interfaces_once (enough_steps program) program))
            is

    -- a class that is missed is there by its name
    missed : (cs : List ClassListing) → list_all (λ (c : ClassListing). is_some (lists c.name)) cs ≡ false
        → ((name : List ℕ) → list_any (is_named name) cs ≡ true → (c : ClassListing) × (Some c ≡ listed program name))
        → ⊥
    missed [] all named = cc
    missed (c ∷ cs) all named =
        elim (and-false (is_some (lists c.name)) (list_all (λ (c : ClassListing). is_some (lists c.name)) cs) all) [
          | inl here ↦
              let first : (d : ClassListing) × (Some d ≡ listed program c.name) =
              named c.name (ap (λ b. b || list_any (is_named c.name) cs) ((bytes_eq-Decides c.name c.name).1 refl)) in
              descent (suc (rank program c.name)) c.name first.0 first.1 (omega arith) (ap not here)
          | inr there ↦ missed cs there
              (λ name h. named name (or-right (is_named name c) (list_any (is_named name) cs) h))
        ]

    any-listed : (cs : List ClassListing) (name : List ℕ) → list_any (is_named name) cs ≡ true → (c : ClassListing)
        × (Some c ≡ find (is_named name) cs)
    any-listed [] name h = cc
    any-listed (c ∷ cs) name h = by (is_named name c) h (λ rest. any-listed cs name rest)
      where
        by : (b : Bool) → (b || list_any (is_named name) cs) ≡ true
            → (list_any (is_named name) cs ≡ true → (d : ClassListing) × (Some d ≡ find (is_named name) cs))
            → (d : ClassListing) × (Some d ≡ cond b (Some c) (find (is_named name) cs))
        by true k rest = (c, refl)
        by false k rest = rest k

    pub none-missed : list_all (λ (c : ClassListing). is_some (lists c.name)) program ≡ false → ⊥
    none-missed all = missed program all (λ name h. any-listed program name h)

-- ---- where each class has its list, and no two have one name, none is above itself

pub no-cycle : (program : List ClassListing) (lists : Lists) → AreLists program lists
    → list_all (λ (c : ClassListing). is_none (listed program c.superclass)) builtin_classes ≡ true
    → (cs : List ClassListing)
    → list_all (λ (c : ClassListing). is_some (lists c.name)) cs ≡ true → AreFirst program cs
    → find (is_on_cycle program) cs ≡ None
no-cycle program lists are apart [] all first = refl
no-cycle program lists are apart (c ∷ cs) all first =
    ap (λ b. cond b (Some c) (find (is_on_cycle program) cs))
    (ends-apart program apart c first.0
    (entry-ends program lists c.name (lists c.name) (are c.name)
    (and-left (is_some (lists c.name)) (list_all (λ (c : ClassListing). is_some (lists c.name)) cs) all)))
    ∙ no-cycle program lists are apart cs
    (and-right (is_some (lists c.name)) (list_all (λ (c : ClassListing). is_some (lists c.name)) cs) all) first.1

-- ---- classes that are the first with their names

first-more : (program cs : List ClassListing) (c : ClassListing) → AreFirst program cs → Some c ≡ listed program c.name
    → AreFirst program (cs ++ c ∷ [])
first-more program [] c first is = (is, tt)
first-more program (x ∷ cs) c first is = (first.0, first-more program cs c first.1 is)

pub first-next : (program : List ClassListing) (n : ℕ) (c : ClassListing) → AreFirst program (take n program)
    → c ≡ get_or program n c → n < length program
    → slice_get program n ≡ listed program c.name → AreFirst program (take (n + 1) program)
first-next program n c first is inside place =
    subst (AreFirst program) (sym (take-next program n c is inside))
    (first-more program (take n program) c first (sym (slice-there program n c is inside) ∙ place))

-- ---- whether a class is above itself

pub missed-cycle : (program : List ClassListing) (lists : Lists) → AreFull program lists
    → list_all (λ (c : ClassListing). is_some (lists c.name)) program ≡ false
    → true ≡ is_some (find (is_on_cycle program) program)
missed-cycle program lists full missed-one = by (find (is_on_cycle program) program) refl
  where
    by : (c : Option ClassListing) → find (is_on_cycle program) program ≡ c → true ≡ is_some c
    by None e = absurd (none-missed program lists full e missed-one)
    by (Some c) e = refl

pub none-cyclic : (program : List ClassListing) → is_some (find (is_on_cycle program) program) ≡ false
    → IsAcyclic program
none-cyclic program none = by (find (is_on_cycle program) program) none
  where
    by : (c : Option ClassListing) → is_some c ≡ false → c ≡ None
    by None h = refl
    by (Some c) h = cc
