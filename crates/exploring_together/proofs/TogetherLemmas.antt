-- What the reports of all parts say together.
use Rattle.std.proofs.Common.{◌≡◌, ◌⊎◌, inl, inr, ℕ, zero, suc, ◌<◌, arith, List, [], ◌∷◌, ◌++◌, length, slice_get}
use Rattle.std.proofs.Common.{slice_index_or, Bool, Option, Some, None}
use Rattle.std.proofs.Common.{IfSome, refl, sym, ◌∙◌, ap, subst}
use Rattle.std.proofs.lemmas.List.{append_assoc}
use Rattle.model.specs.declared.journals.Limits.{Limits}
use Rattle.model.specs.ClassListings.{ClassListing}
use Rattle.exploration.specs.Observations.{Observed}
use Rattle.exploration.specs.Outcomes.{TellsOutcomes}
use Rattle.exploration.proofs.MadeBirths.{get_below}
use Rattle.exploration.proofs.Outcomes.{tells_more}
use Rattle.exploring.specs.declared.explored.Move.{Move}
use Rattle.exploring.specs.Explorations.{AreSoundAfter, BeginsWith, Finding, Report, outcomes_in}
use Rattle.exploring.specs.Origins.{start_of}
use Rattle.exploring.specs.Parts.{AreParts}
use Rattle.exploring_together.specs.Merging.{StaySound, with_all}
use Rattle.exploring_together.specs.Together.{AreOfParts, IsExplored}
use Rattle.exploring_together.proofs.MergingLemmas.{IsFound, all_found}

module _ (program : List ClassListing) (limits : Limits) where
  -- what is sound after a part is sound after what it begins with
  sound_before : (first p : List Move) (found : List Finding) → BeginsWith first p → AreSoundAfter program limits p found
      → AreSoundAfter program limits first found
  sound_before first p found begin sound = record {
    real = sound.real;
    begin = λ k f e. (let own = sound.begin k f e in (
      begin.0 ++ own.0,
      own.1 ∙ ap (λ (ms : List Move). ms ++ own.0) begin.1 ∙ append_assoc first begin.0 own.0,
    ));
    once = sound.once;
  }

  nothing_sound : (first : List Move) (found : List Finding) → found ≡ [] → AreSoundAfter program limits first found
  nothing_sound first [] e = record { real = λ k f q. absurd (cc); begin = λ k f q. absurd (cc); once = λ i j o q. absurd (cc) }
  nothing_sound first (f ∷ found) e = absurd (cc)

-- ---- the reports of all parts

module _ (program : List ClassListing) (limits : Limits) (no_room : Bool) where
  abbrev Each : List (List Move) → List (Option Report) → Type 0
  Each parts made = (i : ℕ) (d : Option Report) → i < length parts
      → IfSome (slice_index_or made i d) (IsExplored program limits (slice_index_or parts i []) no_room)

  later : (p : List Move) (parts : List (List Move)) (m : Option Report) (made : List (Option Report))
      → Each (p ∷ parts) (m ∷ made) → Each parts made
  later p parts m made each i d l = each (suc i) d (omega (arith, l))

  reported : (parts : List (List Move)) (made : List (Option Report)) → length made ≡ length parts → Each parts made
      → (k : ℕ) (p : List Move) → slice_get parts k ≡ Some p
      → (r : Option Report) × (slice_get made k ≡ Some r) × IfSome r (IsExplored program limits p no_room)
  reported [] made len each k p there = absurd (cc)
  reported (q ∷ parts) [] len each k p there = absurd (omega (arith, len))
  reported (q ∷ parts) (m ∷ made) len each zero p there =
      let same : q ≡ p = cc in
      (m, refl, subst (λ (x : List Move). IfSome m (IsExplored program limits x no_room)) same (each 0 m (omega arith)))
  reported (q ∷ parts) (m ∷ made) len each (suc k) p there =
      reported parts made (omega (arith, len)) (later q parts m made each) k p there

  of_part : (parts : List (List Move)) (made : List (Option Report)) → length made ≡ length parts → Each parts made
      → (k : ℕ) (r : Option Report) → slice_get made k ≡ Some r
      → (p : List Move) × (slice_get parts k ≡ Some p) × IfSome r (IsExplored program limits p no_room)
  of_part parts [] len each k r there = absurd (cc)
  of_part [] (m ∷ made) len each k r there = absurd (omega (arith, len))
  of_part (p ∷ parts) (m ∷ made) len each zero r there =
      let same : m ≡ r = cc in (
        p,
        refl,
        subst (λ (x : Option Report). IfSome x (IsExplored program limits p no_room)) same
            (each 0 m (omega arith)),
      )
  of_part (p ∷ parts) (m ∷ made) len each (suc k) r there =
      of_part parts made (omega (arith, len)) (later p parts m made each) k r there

  pub each_of_part : (parts : List (List Move)) (made : List (Option Report)) → length made ≡ length parts
      → Each parts made → AreOfParts program limits no_room parts made
  each_of_part parts made len each = record {
    reported = reported parts made len each;
    of_part = of_part parts made len each;
  }

-- ---- put together, one after the other

module _ (program : List ClassListing) (limits : Limits) (first : List Move) (no_room : Bool) (parts : List (List Move)) where
  -- the report of a part is among those that are left, if there is one
  pub record WaitsIn (p : List Move) (left : List (Option Report)) : Type 0 where
    pub place : ℕ
    pub report : Option Report
    pub there : slice_get left place ≡ Some report
    pub is : IfSome report (IsExplored program limits p no_room)

  -- Some reports were put together, and the others are left: all is sound, and each part is told of, or waits.
  pub record IsGathered (all : Report) (left : List (Option Report)) : Type 0 where
    pub sound : AreSoundAfter program limits first all.found
    pub left_sound : (k : ℕ) (e : Report) → slice_get left k ≡ Some (Some e) → AreSoundAfter program limits first e.found
    pub told : all.cut ≡ None → (k : ℕ) (p : List Move) → slice_get parts k ≡ Some p
        → TellsOutcomes program limits no_room (start_of program limits p) (outcomes_in all) ⊎ WaitsIn p left

  module _ (are : AreParts program limits first no_room parts) where
    pub gathering_begins : (made : List (Option Report)) → AreOfParts program limits no_room parts made → (all : Report)
        → all.found ≡ [] → IsGathered all made
    gathering_begins made of all none = record {
      sound = nothing_sound program limits first all.found none;
      left_sound = λ k e there. (let p = of.of_part k (Some e) there in
          sound_before program limits first p.0 e.found (are.begin k p.0 p.1) (p.2).sound);
      told = λ cut k p there. (let m = of.reported k p there in
          inr (record { place = k; report = m.0; there = m.1; is = m.2 }));
    }

    pub gathering_ends : (all : Report) (left : List (Option Report)) → length left ≡ 0 → IsGathered all left
        → IsExplored program limits first no_room all
    gathering_ends all left none g = record {
      complete = λ cut. are.whole (outcomes_in all) (λ k p there. (elim (g.told cut k p there) [
        | inl told ↦ told
        | inr waits ↦ absurd (let l = get_below left waits.place waits.report waits.there in omega (arith, l, none))
      ]));
      sound = g.sound;
    }

  -- one more report is put to the others
  pub gathering_goes_on : (all more next : Report) (left : List (Option Report)) → IsGathered all (Some more ∷ left)
      → StaySound all.found more.found next.found
      → (next.cut ≡ None → (all.cut ≡ None) × (more.cut ≡ None) × (next.found ≡ with_all all.found more.found))
      → IsGathered next left
  gathering_goes_on all more next left g stay cuts = record {
    sound = stay program limits first g.sound (g.left_sound 0 more refl);
    left_sound = λ k e there. g.left_sound (suc k) e there;
    told = λ cut k p there. (elim (g.told (cuts cut).0 k p there) [
      | inl told ↦ inl (tells_more program limits no_room (start_of program limits p) (outcomes_in all) told
          (outcomes_in next) (λ o h. both cut o (inl h)))
      | inr waits ↦ waited cut p waits.place waits.report waits.there waits.is
    ]);
  }
    where
      both : next.cut ≡ None → (o : Observed) → IsFound all.found o ⊎ IsFound more.found o → IsFound next.found o
      both cut o h = subst (λ (fs : List Finding). IsFound fs o) (sym (cuts cut).2)
          (all_found program limits first all.found more.found g.sound (g.left_sound 0 more refl) o h)

      waited : next.cut ≡ None → (p : List Move) (k : ℕ) (r : Option Report) → slice_get (Some more ∷ left) k ≡ Some r
          → IfSome r (IsExplored program limits p no_room)
          → TellsOutcomes program limits no_room (start_of program limits p) (outcomes_in next) ⊎ WaitsIn p left
      waited cut p zero r there is =
          let same : r ≡ Some more = cc in
          let own : IsExplored program limits p no_room more = subst (λ (x : Option Report). IfSome x (IsExplored program limits p no_room)) same is in
          inl (tells_more program limits no_room (start_of program limits p) (outcomes_in more) (own.complete (cuts cut).1)
          (outcomes_in next) (λ o h. both cut o (inr h)))
      waited cut p (suc k) r there is = inr (record { place = k; report = r; there = there; is = is })
