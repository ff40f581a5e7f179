-- An object in a cell as plain data: what it holds, its monitor and its thread.
use Rattle.std.proofs.Common.{◌≡◌, ℕ, ◌≤◌, List, length, map, slice_get, Option, Some, None, refl, sym, ◌∙◌, ap, subst}
use Rattle.std.proofs.Common.{arith}
use Rattle.std.specs.Option.{option_map}
use Rattle.std.proofs.lemmas.List.{length-map, map-append}
use Rattle.std.proofs.lemmas.Option.{slice_get-map}
use Rattle.model.specs.declared.values.Value.{Value}
use Rattle.model.specs.ClassListings.{ClassListing}
use Rattle.model.specs.Classes.Builtin.{builtin_classes}
use Rattle.model.specs.Classes.Layout.{layout}
use Rattle.model.specs.Worlds.{Contents, Monitor, Object}
use Rattle.resolve.specs.Numbers.{all_classes, class_names, name_of}
use Rattle.linking.specs.ClassTables.{class_facts, class_tables, word_of, words_if as words_known}
use Rattle.cells.specs.Objects.{StoredObject, monitor_if, object_if, thread_if, words_if}
use Rattle.join.specs.Naming.{Naming, named_contents, named_object}
use Rattle.instructions.specs.declared.kinds.Kind.{Kind}
use Rattle.instructions.specs.declared.kinds.Kind.TheVariants.{Instance}
use Rattle.instructions.specs.ByNumbers.{HoldsStored, IsStored}
use Rattle.instructions.specs.Shown.{class_name, contents_shown, name_or_none, object_shown}

-- ---- an object has no more words than its class has fields

module _ (program : List ClassListing) where
  names_are : class_names program ≡ map name_of (all_classes program)
  names_are = sym (map-append name_of program builtin_classes)

  enough_in : (o : Option ClassListing) (words : List Value)
      → length words ≡ length (words_known (option_map (class_facts program) o))
      → length words ≤ length (layout program (name_or_none (option_map name_of o)))
  enough_in None words e = omega (arith, e)
  enough_in (Some c) words e =
      let same : length (map (word_of program) (layout program c.name)) ≡ length (layout program c.name) = length-map
      (layout program c.name) (word_of program) in
      omega (arith, e, same)

  enough_of : (class : ℕ) (words : List Value) → IsStored program (Instance class) words
      → length words ≤ length (layout program (class_name program class))
  enough_of class words e =
      let facts : slice_get (class_tables program) class
      ≡ option_map (class_facts program) (slice_get (all_classes program) class) = slice_get-map
      (class_facts program) (all_classes program) class in
      let name : slice_get (class_names program) class ≡ option_map name_of (slice_get (all_classes program) class) = ap
      (λ names. slice_get names class) names_are ∙ slice_get-map name_of (all_classes program) class in
      subst (λ n. length words ≤ length (layout program (name_or_none n))) (sym name)
      (enough_in (slice_get (all_classes program) class) words (e ∙ ap (λ f. length (words_known f)) facts))

  pub enough_fields : (kind : Kind) (class : ℕ) (words : List Value) (name : List ℕ)
      → IsStored program kind words → kind ≡ Instance class → name ≡ class_name program class
      → length words ≤ length (layout program name)
  enough_fields kind class words name stored is named =
      subst (λ n. length words ≤ length (layout program n)) (sym named)
      (enough_of class words (subst (λ k. IsStored program k words) is stored))

  -- ---- what stands in a cell

  pub held_is : (o : Option (StoredObject Kind)) (kind : Kind) (words : List Value) → HoldsStored program o
      → Some kind ≡ option_map (λ object. object.kind) o → words ≡ words_if o → IsStored program kind words
  held_is None kind words stored is has = absurd (cc)
  held_is (Some object) kind words stored is has =
      let same : kind ≡ object.kind = cc in
      subst (λ k. IsStored program k words) (sym same) (subst (λ ws. IsStored program object.kind ws) (sym has) stored)

  abbrev with_all : Contents → Monitor → Option ℕ → Object
  with_all contents monitor thread = record { contents = contents; monitor = monitor; thread = thread }

  in_cell : (births : Naming) (o : Option (Option (StoredObject Kind))) (kind : Kind) (words : List Value)
      (contents : Contents) (monitor : Monitor) (thread : Option ℕ)
      → Some kind ≡ option_map (λ object. object.kind) (object_if o) → words ≡ words_if (object_if o)
      → contents ≡ named_contents births (contents_shown program kind words)
      → monitor ≡ monitor_if (object_if o) → thread ≡ thread_if (object_if o)
      → Some (with_all contents monitor thread) ≡ option_map (named_object births) (option_map (object_shown program) o)
  in_cell births None kind words contents monitor thread is has holds owned started = absurd (cc)
  in_cell births (Some None) kind words contents monitor thread is has holds owned started = absurd (cc)
  in_cell births (Some (Some object)) kind words contents monitor thread is has holds owned started =
      let same : kind ≡ object.kind = cc in
      rw (holds, owned, started, has, same) refl

  pub object_is : (births : Naming) (objects : List (Option (StoredObject Kind))) (cell : ℕ) (kind : Kind)
      (words : List Value) (contents : Contents) (monitor : Monitor) (thread : Option ℕ)
      → Some kind ≡ option_map (λ object. object.kind) (object_if (slice_get objects cell))
      → words ≡ words_if (object_if (slice_get objects cell))
      → contents ≡ named_contents births (contents_shown program kind words)
      → monitor ≡ monitor_if (object_if (slice_get objects cell))
      → thread ≡ thread_if (object_if (slice_get objects cell))
      → Some (with_all contents monitor thread)
      ≡ option_map (named_object births) (slice_get (map (object_shown program) objects) cell)
  object_is births objects cell kind words contents monitor thread is has holds owned started =
      in_cell births (slice_get objects cell) kind words contents monitor thread is has holds owned started
      ∙ ap (option_map (named_object births)) (sym (slice_get-map (object_shown program) objects cell))
