use Rattle.std.proofs.Common.{◌≡◌, ℕ, suc, List, [], ◌∷◌, ◌++◌, reverse, Bool, true, false, not, ◌||◌, if◌then◌else◌}
use Rattle.std.proofs.Common.{Some, refl, sym, ◌∙◌, ap, subst}
use Rattle.std.specs.List.{list_any}
use Rattle.std.proofs.lemmas.List.{append_assoc, reverse-append, reverse-reverse}
use Rattle.std.specs.Str.{bytes_eq}
use Rattle.indexmap.specs.IndexSet.{insert_key}
use Rattle.model.specs.Worlds.{World}
use Rattle.exploring.specs.declared.chains.Link.{Link}
use Rattle.exploring.specs.Chains.{Chains, IsChain, is_same, started}
use Rattle.exploring.specs.Keys.{head, pieces, rest}
use Rattle.exploring.specs.States.{AddsState, AreKeys, HasStates, IsKey, IsOneOf, KeysTell, Stored, with_state}
use Rattle.exploring.proofs.ChainLemmas.{Keeps, chain_kept, chain_tells, chained_is, chained_links, chained_pieces}
use Rattle.exploring.proofs.ChainLemmas.{entry_keeps, onto, same_link, start_is}
use Rattle.exploring.proofs.KeyLemmas.{pieces_tell}

-- a key is that of one state

pub keys_tell : KeysTell
keys_tell table c l v w e f =
    let back = chain_tells c.pieces c.links (reverse (pieces table v)) (reverse (pieces table w)) l e f in
    pieces_tell table v w (sym (reverse-reverse (pieces table v)) ∙ ap reverse back ∙ reverse-reverse (pieces table w))

-- the chain of a state is made

onto_is : (xs done : List (List ℕ)) → onto done xs ≡ reverse xs ++ done
onto_is [] done = refl
onto_is (x ∷ xs) done =
    onto_is xs (x ∷ done) ∙ sym (append_assoc (reverse xs) (x ∷ []) done)
    ∙ ap (λ ys. ys ++ done) (sym (reverse-append (x ∷ []) xs))

module _ (table : List (List ℕ)) (old new : Chains) (w : World) (is : new ≡ with_state table old w) where
  abbrev begun : Chains
  begun = started old (head w)

  made : IsKey table new new.last w
  made =
      let c = with_state table old w in
      let turned : onto (head w ∷ []) (rest table w) ≡ reverse (pieces table w) =
      onto_is (rest table w) (head w ∷ []) ∙ sym (reverse-append (head w ∷ []) (rest table w)) in
      subst (λ (d : Chains). IsKey table d d.last w) (sym is) (subst (IsChain c.pieces c.links c.last) turned
      (chained_is (rest table w) begun (head w ∷ []) (start_is old (head w))))

  -- what was there stays
  pieces_stay : Keeps old.pieces new.pieces
  pieces_stay = subst (λ (d : Chains). Keeps old.pieces d.pieces) (sym is) (λ n x e.
      chained_pieces (rest table w) begun n x (entry_keeps bytes_eq old.pieces (head w) n x e))

  links_stay : Keeps old.links new.links
  links_stay = subst (λ (d : Chains). Keeps old.links d.links) (sym is) (chained_links (rest table w) begun)

  keys_stay : (ls : List Link) (states : List World) → AreKeys table old ls states → AreKeys table new ls states
  keys_stay [] [] e = e
  keys_stay [] (v ∷ vs) e = absurd e
  keys_stay (l ∷ ls) [] e = absurd e
  keys_stay (l ∷ ls) (v ∷ vs) e = (
    chain_kept old.pieces new.pieces old.links new.links pieces_stay links_stay l (reverse (pieces table v)) e.0,
    keys_stay ls vs e.1,
  )

-- a state whose key is there is there; else it's one more

module _ (table : List (List ℕ)) (c : Chains) (l : Link) (w : World) (key : IsKey table c l w) where
  one_of : (ls : List Link) (states : List World) → AreKeys table c ls states → list_any (is_same l) ls ≡ true
      → IsOneOf states w
  one_of [] states e h = absurd (cc)
  one_of (k ∷ ks) [] e h = absurd e
  one_of (k ∷ ks) (v ∷ vs) e h = first (is_same l k) refl h (one_of ks vs e.1)
    where
      first : (b : Bool) → is_same l k ≡ b → (b || list_any (is_same l) ks) ≡ true
          → (list_any (is_same l) ks ≡ true → IsOneOf vs w) → IsOneOf (v ∷ vs) w
      first true f g rest =
          let one = subst (λ (m : Link). IsKey table c m v) (sym (same_link l k f)) e.0 in
          (0, ap (λ (y : World). Some y) (keys_tell table c l v w one key))
      first false f g rest = let found = rest g in (suc found.0, found.1)

  one_more : (ls : List Link) (states : List World) → AreKeys table c ls states
      → AreKeys table c (ls ++ l ∷ []) (states ++ w ∷ [])
  one_more [] [] e = (key, e)
  one_more [] (v ∷ vs) e = absurd e
  one_more (k ∷ ks) [] e = absurd e
  one_more (k ∷ ks) (v ∷ vs) e = (e.0, one_more ks vs e.1)

pub adds_state : (old new : Stored) (c : Chains) (l : Link) (w : World) (fresh : Bool)
    → c ≡ with_state old.table old.chains w → l ≡ c.last
    → new ≡ record { table = old.table; chains = c; keys = insert_key is_same old.keys l }
    → fresh ≡ not (list_any (is_same l) old.keys) → (states : List World) → HasStates old states
    → AddsState new states w fresh
adds_state old new c l w fresh made_so last is known states has =
    rw (known, is) (by (list_any (is_same l) old.keys) refl)
  where
    its : IsKey old.table c l w
    its = subst (λ (m : Link). IsKey old.table c m w) (sym last) (made old.table old.chains c w made_so)

    stay : AreKeys old.table c old.keys states
    stay = keys_stay old.table old.chains c w made_so old.keys states has

    by : (there : Bool) → list_any (is_same l) old.keys ≡ there → AddsState (record {
      table = old.table;
      chains = c;
      keys = if there then old.keys else old.keys ++ l ∷ [];
    }) states w (not there)
    by true h = (stay, one_of old.table c l w its old.keys states stay h)
    by false h = one_more old.table c l w its old.keys states stay
