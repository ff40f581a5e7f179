-- Going from a class to its superclasses ends in a hierarchy, so that what is above one of them is the end of the way.
use Rattle.std.proofs.Common.{◌≡◌, ◌⊎◌, inl, inr, ℕ, zero, suc, ◌+◌, ◌<◌, ◌≤◌, List, [], ◌∷◌, ◌++◌, Bool, true, false}
use Rattle.std.proofs.Common.{◌||◌, length, Option, Some, None, is_none, is_some, refl, sym, ap, subst, arith, ◌∙◌}
use Rattle.std.specs.Prelude.{codes}
use Rattle.std.specs.List.{find, list_all, list_any}
use Rattle.model.specs.ClassListings.{ClassListing}
use Rattle.model.specs.Accepted.BuiltinNames.{has_builtin_name}
use Rattle.model.specs.Accepted.Cycles.{is_on_cycle}
use Rattle.model.specs.Accepted.Superclasses.{has_missing_parent}
use Rattle.model.specs.Classes.Builtin.{builtin_classes}
use Rattle.model.specs.Classes.Named.{builtin, class_named, is_named, listed, or_else, parents_in, parents_named}
use Rattle.model.specs.Classes.Named.{parents_of}
use Rattle.model.specs.Classes.Search.{superclasses, upwards, with_superclasses}
use Rattle.model.specs.Classes.Subclass.{HasName, Subclass}
use Rattle.model.specs.Classes.Subclass.Subclass.{same, parent, through}
use Rattle.model.specs.Classes.Subclasses.{is_subclass, is_within}
use Rattle.model.proofs.SubclassTest.{Subclass-is_subclass, is_within-Subclass}
use Rattle.resolve.specs.Hierarchies.{IsHierarchy}
use Rattle.resolve.proofs.AcyclicLemmas.{named-listed, parents-listed, rank, rank-less}
use Rattle.resolve.proofs.ListLemmas.{all-found, count-all, none-fails}
use Rattle.resolve.proofs.NamedLemmas.{HasName as IsNamed, found}
use Rattle.resolve.proofs.ReachedLemmas.{any-has}

-- ---- how far upwards

abbrev ends_on : (List ℕ → Bool) → Option ClassListing → Bool
ends_on rest None = true
ends_on rest (Some c) = rest c.superclass

-- so many steps pass the class of a name and all its superclasses
abbrev ends : ℕ → List ClassListing → List ℕ → Bool
ends zero program name = is_none (class_named program name)
ends (suc n) program name = ends_on (ends n program) (class_named program name)

ends-more : (n : ℕ) (program : List ClassListing) (name : List ℕ) → ends n program name ≡ true
    → ends (suc n) program name ≡ true
ends-more zero program name h = by (class_named program name) h where
  by : (c : Option ClassListing) → is_none c ≡ true → ends_on (ends 0 program) c ≡ true
  by None e = refl
  by (Some c) e = cc
ends-more (suc n) program name h = by (class_named program name) h (λ above e. ends-more n program above e) where
  by : (c : Option ClassListing) → ends_on (ends n program) c ≡ true
      → ((above : List ℕ) → ends n program above ≡ true → ends (suc n) program above ≡ true)
      → ends_on (ends (suc n) program) c ≡ true
  by None e more = refl
  by (Some c) e more = more c.superclass e

ends-plus : (k n : ℕ) (program : List ClassListing) (name : List ℕ) → ends n program name ≡ true
    → ends (k + n) program name ≡ true
ends-plus zero n program name h = let e : 0 + n ≡ n = omega arith in rw e h
ends-plus (suc k) n program name h =
    let e : suc k + n ≡ suc (k + n) = omega arith in
    rw e (ends-more (k + n) program name (ends-plus k n program name h))

-- ---- where it ends, more steps give nothing more

module _ (program : List ClassListing) where
  pub next : (n : ℕ) (name : List ℕ)
      → upwards (suc n) program name ≡ with_superclasses name (λ superclass. upwards n program superclass)
      (class_named program name)
  unfolding upwards
  next n name = refl

  none_above : (k : ℕ) (name : List ℕ) → class_named program name ≡ None → upwards k program name ≡ []
  unfolding upwards
  none_above zero name e = refl
  none_above (suc k) name e = rw e refl

  none_first : (name : List ℕ) → upwards 0 program name ≡ []
  unfolding upwards
  none_first name = refl

  is_none-None : (c : Option ClassListing) → is_none c ≡ true → c ≡ None
  is_none-None None e = refl
  is_none-None (Some c) e = cc

  stable : (n k : ℕ) (name : List ℕ) → ends n program name ≡ true → n ≤ k
      → upwards k program name ≡ upwards n program name
  stable zero k name h le = none_above k name (is_none-None (class_named program name) h) ∙ sym (none_first name)
  stable (suc n) zero name h le = absurd (omega arith)
  stable (suc n) (suc k) name h le =
      next k name ∙ by (class_named program name) h (λ above e. stable n k above e (omega (arith, le)))
      ∙ sym (next n name)
    where
      by : (c : Option ClassListing) → ends_on (ends n program) c ≡ true
          → ((above : List ℕ) → ends n program above ≡ true → upwards k program above ≡ upwards n program above)
          → with_superclasses name (λ superclass. upwards k program superclass) c ≡ with_superclasses name
          (λ superclass. upwards n program superclass) c
      by None e rest = refl
      by (Some c) e rest = ap (λ names. name ∷ names) (rest c.superclass e)

  -- ---- what is above a class of the way is the way's end

  pub record IsAfter (names ending : List (List ℕ)) : Type 0 where
    pub before : List (List ℕ)
    pub joined : names ≡ before ++ ending

  following : (n total : ℕ) (name above : List ℕ) → ends n program name ≡ true → n ≤ total
      → HasName (upwards n program name) above
      → IsAfter (upwards n program name) (upwards total program above)
  following zero total name above h le there = absurd (subst (λ names. HasName names above) (none_first name) there)
  following (suc n) total name above h le there =
      subst (λ names. IsAfter names (upwards total program above)) (sym (next n name))
      (by (class_named program name) refl h (subst (λ names. HasName names above) (next n name) there)
      (λ superclass e later. following n total superclass above e (omega (arith, le)) later))
    where
      by : (c : Option ClassListing) → class_named program name ≡ c → ends_on (ends n program) c ≡ true
          → HasName (with_superclasses name (λ superclass. upwards n program superclass) c) above
          → ((superclass : List ℕ) → ends n program superclass ≡ true → HasName (upwards n program superclass) above
          → IsAfter (upwards n program superclass) (upwards total program above))
          → IsAfter (with_superclasses name (λ superclass. upwards n program superclass) c)
          (upwards total program above)
      by None is e k further = absurd k
      by (Some c) is e (inl here) further = record {
        before = [];
        joined =
            ap (λ o. with_superclasses name (λ superclass. upwards n program superclass) o) (sym is)
            ∙ sym (next n name) ∙ sym (stable (suc n) total name h le) ∙ ap (upwards total program) here;
      }
      by (Some c) is e (inr later) further =
          let rest = further c.superclass e later in
          record { before = name ∷ rest.before; joined = ap (λ names. name ∷ names) rest.joined }

-- ---- the machine's own classes, which lie below Object

own_below : list_all (λ (c : ClassListing). is_within 8 [] c.name (codes "java/lang/Object")) builtin_classes ≡ true
unfolding builtin_classes is_within
own_below = refl

own_end : list_all (λ (c : ClassListing). ends 8 [] c.name) builtin_classes ≡ true
unfolding builtin_classes
own_end = refl

abbrev is_nameless : List ℕ → Bool
is_nameless [] = true
is_nameless (b ∷ bs) = false

own_above : list_all (λ (c : ClassListing). is_nameless c.superclass || is_some (builtin c.superclass)) builtin_classes
    ≡ true
unfolding builtin_classes
own_above = refl

object_above : parents_named [] (codes "java/lang/Object") ≡ [] ∷ []
unfolding builtin_classes
object_above = refl

object_there : is_some (builtin (codes "java/lang/Object")) ≡ true
unfolding builtin_classes
object_there = refl

either : (a b : Bool) → (a || b) ≡ true → (a ≡ true) ⊎ (b ≡ true)
either true b h = inl refl
either false b h = inr h

differ : (b : Bool) → b ≡ true → b ≡ false → ⊥
differ b p q = cc

-- ---- in a hierarchy that hides none of the machine's own classes

module _ (program : List ClassListing) (hierarchy : IsHierarchy program)
    (hides : find has_builtin_name program ≡ None) where
  pub unlisted : (name : List ℕ) → is_some (builtin name) ≡ true → listed program name ≡ None
  unfolding has_builtin_name
  unlisted name own = by (listed program name) refl
    where
      by : (c : Option ClassListing) → listed program name ≡ c → c ≡ None
      by None e = refl
      by (Some c) e =
          absurd (differ (is_some (builtin c.name))
          (ap (λ n. is_some (builtin n)) (named-listed program name c (sym e)) ∙ own)
          (none-fails has_builtin_name (is_named name) program c hides e))

  own_named : (name : List ℕ) → is_some (builtin name) ≡ true → class_named program name ≡ builtin name
  own_named name own = ap (λ o. or_else o (builtin name)) (unlisted name own)

  own_parents : (name above : List ℕ) → HasName (parents_named [] name) above
      → HasName (parents_named program name) above
  own_parents name above h = by (builtin name) refl h
    where
      by : (c : Option ClassListing) → builtin name ≡ c → HasName (parents_in c) above
          → HasName (parents_named program name) above
      by None e k = absurd k
      by (Some c) e k = subst (λ o. HasName (parents_in o) above) (sym (own_named name (ap is_some e) ∙ e)) k

  own_subclass : {name above : List ℕ} → Subclass [] name above → Subclass program name above
  own_subclass same = same
  own_subclass (parent {name = name} {above = above} h) = parent (own_parents name above h)
  own_subclass (through middle p q) = through middle (own_subclass p) (own_subclass q)

  present : (name : List ℕ) (c : ClassListing) → listed program name ≡ Some c
      → is_some (class_named program c.superclass) ≡ true
  unfolding has_missing_parent
  present name c e =
      by (class_named program c.superclass) (list_any (λ n. is_none (class_named program n)) c.interfaces)
      (none-fails (has_missing_parent program) (is_named name) program c hierarchy.0 e)
    where
      by : (o : Option ClassListing) (b : Bool) → (is_none o || b) ≡ false → is_some o ≡ true
      by None b h = cc
      by (Some c) b h = refl

  rank-parent : (name : List ℕ) (c : ClassListing) → listed program name ≡ Some c
      → rank program c.superclass < rank program name
  rank-parent name c e = rank-less program hierarchy.1 name c.superclass c (sym e) (inl refl)

  reaches-own : (name : List ℕ) → is_some (builtin name) ≡ true → Subclass program name (codes "java/lang/Object")
  reaches-own name own = by (builtin name) refl own (found name builtin_classes)
    where
      by : (c : Option ClassListing) → builtin name ≡ c → is_some c ≡ true → IsNamed name c
          → Subclass program name (codes "java/lang/Object")
      by None e k named = cc
      by (Some c) e k named =
          own_subclass (is_within-Subclass 8 [] name (codes "java/lang/Object")
          (ap (λ n. is_within 8 [] n (codes "java/lang/Object")) (sym named)
          ∙ all-found (λ (c : ClassListing). is_within 8 [] c.name (codes "java/lang/Object"))
          (is_named name) builtin_classes c own_below e))

  reaches : (r : ℕ) (name : List ℕ) → rank program name ≤ r → is_some (class_named program name) ≡ true
      → Subclass program name (codes "java/lang/Object")
  reaches zero name few there = by (listed program name) refl there
    where
      by : (c : Option ClassListing) → listed program name ≡ c → is_some (or_else c (builtin name)) ≡ true
          → Subclass program name (codes "java/lang/Object")
      by None e k = reaches-own name k
      by (Some c) e k = let less = rank-parent name c e in absurd (omega (arith, less, few))
  reaches (suc r) name few there = by (listed program name) refl there (λ above le k. reaches r above le k)
    where
      by : (c : Option ClassListing) → listed program name ≡ c → is_some (or_else c (builtin name)) ≡ true
          → ((above : List ℕ) → rank program above ≤ r → is_some (class_named program above) ≡ true
          → Subclass program above (codes "java/lang/Object"))
          → Subclass program name (codes "java/lang/Object")
      by None e k rest = reaches-own name k
      by (Some c) e k rest =
          let less = rank-parent name c e in
          through c.superclass
          (parent (subst (λ names. HasName names c.superclass) (sym (parents-listed program name c (sym e)))
          (inl refl)))
          (rest c.superclass (omega (arith, less, few)) (present name c e))

  -- no class is without a name
  pub nameless : listed program [] ≡ None
  unfolding is_on_cycle
  nameless = by (listed program []) refl
    where
      by : (c : Option ClassListing) → listed program [] ≡ c → c ≡ None
      by None e = refl
      by (Some c) e =
          let below : Subclass program c.superclass (codes "java/lang/Object") =
          reaches (rank program c.superclass) c.superclass (omega arith) (present [] c e) in
          let top : Subclass program (codes "java/lang/Object") [] =
          parent (own_parents (codes "java/lang/Object") []
          (subst (λ names. HasName names []) (sym object_above) (inl refl))) in
          let round : is_subclass program c.superclass c.name ≡ true =
          Subclass-is_subclass program c.superclass c.name
          (subst (λ n. Subclass program c.superclass n) (sym (named-listed program [] c (sym e)))
          (through (codes "java/lang/Object") below top)) in
          absurd (differ (is_on_cycle program c)
          (any-has (λ above. is_subclass program above c.name) (parents_of c) c.superclass (inl refl) round)
          (none-fails (is_on_cycle program) (is_named []) program c hierarchy.1 e))

  -- ---- going upwards ends

  pub above-own : (name : List ℕ) (c : ClassListing) → builtin name ≡ Some c → listed program c.superclass ≡ None
  above-own name c e =
      by c.superclass
      (either (is_nameless c.superclass) (is_some (builtin c.superclass))
      (all-found (λ (c : ClassListing). is_nameless c.superclass || is_some (builtin c.superclass))
      (is_named name) builtin_classes c own_above e))
    where
      by : (above : List ℕ) → (is_nameless above ≡ true) ⊎ (is_some (builtin above) ≡ true)
          → listed program above ≡ None
      by [] h = nameless
      by (b ∷ bs) (inl h) = cc
      by (b ∷ bs) (inr h) = unlisted (b ∷ bs) h

  ends-own : (n : ℕ) (name : List ℕ) → listed program name ≡ None → ends n [] name ≡ true → ends n program name ≡ true
  ends-own zero name none h = ap (λ o. is_none (or_else o (builtin name))) none ∙ h
  ends-own (suc n) name none h =
      ap (λ o. ends_on (ends n program) (or_else o (builtin name))) none
      ∙ by (builtin name) refl h (λ above none h. ends-own n above none h)
    where
      by : (c : Option ClassListing) → builtin name ≡ c → ends_on (ends n []) c ≡ true
          → ((above : List ℕ) → listed program above ≡ None → ends n [] above ≡ true → ends n program above ≡ true)
          → ends_on (ends n program) c ≡ true
      by None e k rest = refl
      by (Some c) e k rest = rest c.superclass (above-own name c e) k

  ends-unlisted : (name : List ℕ) → listed program name ≡ None → ends 8 program name ≡ true
  ends-unlisted name none = ends-own 8 name none (by (builtin name) refl (found name builtin_classes))
    where
      by : (c : Option ClassListing) → builtin name ≡ c → IsNamed name c → ends 8 [] name ≡ true
      by None e named = rw e refl
      by (Some c) e named =
          ap (λ n. ends 8 [] n) (sym named)
          ∙ all-found (λ (c : ClassListing). ends 8 [] c.name) (is_named name) builtin_classes c own_end e

  ends-ranked : (r : ℕ) (name : List ℕ) → rank program name ≤ r → ends (r + 8) program name ≡ true
  ends-ranked zero name few = by (listed program name) refl
    where
      by : (c : Option ClassListing) → listed program name ≡ c → ends (0 + 8) program name ≡ true
      by None e = ends-plus 0 8 program name (ends-unlisted name e)
      by (Some c) e = let less = rank-parent name c e in absurd (omega (arith, less, few))
  ends-ranked (suc r) name few = by (listed program name) refl (λ above le. ends-ranked r above le)
    where
      by : (c : Option ClassListing) → listed program name ≡ c
          → ((above : List ℕ) → rank program above ≤ r → ends (r + 8) program above ≡ true)
          → ends (suc r + 8) program name ≡ true
      by None e rest = ends-plus (suc r) 8 program name (ends-unlisted name e)
      by (Some c) e rest =
          let less = rank-parent name c e in
          let more : suc r + 8 ≡ suc (r + 8) = omega arith in
          ap (λ n. ends n program name) more
          ∙ ap (λ o. ends_on (ends (r + 8) program) (or_else o (builtin name))) e
          ∙ rest c.superclass (omega (arith, less, few))

  ends-all : (name : List ℕ) → ends (length program + 8) program name ≡ true
  ends-all name =
      ends-ranked (length program) name (count-all (λ (c : ClassListing). is_subclass program name c.name) program)

  -- what is above a class that is above another is the end of what is above the other
  pub superclasses-following : (name above : List ℕ) → HasName (superclasses program name) above
      → IsAfter program (superclasses program name) (superclasses program above)
  superclasses-following name above there =
      let same : superclasses program name ≡ upwards (length program + 8) program name =
      stable program (length program + 8) (length program + 23) name (ends-all name) (omega arith) in
      subst (λ names. IsAfter program names (superclasses program above)) (sym same)
      (following program (length program + 8) (length program + 23) name above (ends-all name) (omega arith)
      (subst (λ names. HasName names above) same there))
