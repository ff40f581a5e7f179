use Rattle.std.proofs.Common.{◌≡◌, ℕ, suc, List, [], ◌∷◌, map, slice_get, Option, Some, None, refl, ap}
use Rattle.model.specs.declared.values.Value.{Value}
use Rattle.model.specs.declared.values.Value.TheVariants.{Int, Long, Ref}
use Rattle.model.specs.declared.values.Entry.{Entry}
use Rattle.model.specs.declared.values.Entry.TheVariants.{Unset, Holds, UpperHalf}
use Rattle.model.specs.Frames.{Frame}
use Rattle.model.specs.Worlds.{Thread, FieldValue, Contents, frames_of}
use Rattle.model.specs.Worlds.Thread.{Live, Ended}
use Rattle.model.specs.Worlds.Contents.{Instance, Array}
use Rattle.model.specs.Collector.Places.{ref_of, entry_ref, field_ref, contents_refs}
use Rattle.model.specs.Collector.Moves.{LeadNowhere}
use Rattle.model.proofs.CollectorLemmas.Moving.{AllMay}
use Rattle.join.specs.Naming.{Naming, named_ref, named_value, named_entry, named_field, named_frame, named_thread}
use Rattle.join.specs.Naming.{named_contents}

-- two namings that agree on some births have one image of what leads to these alone

module _ (h g : Naming) (P : ℕ → Type 0) (same : (b : ℕ) → P b → h b ≡ g b) where
  pub ref_agrees : (r : Option ℕ) → ((b : ℕ) → r ≡ Some b → P b) → named_ref h r ≡ named_ref g r
  ref_agrees None k = refl
  ref_agrees (Some b) k = ap Some (same b (k b refl))

  value_agrees : (v : Value) → ((b : ℕ) → ref_of v ≡ Some b → P b) → named_value h v ≡ named_value g v
  value_agrees (Int z) k = refl
  value_agrees (Long z) k = refl
  value_agrees (Ref r) k = ap Ref (ref_agrees r k)

  entry_agrees : (e : Entry) → ((b : ℕ) → entry_ref e ≡ Some b → P b) → named_entry h e ≡ named_entry g e
  entry_agrees Unset k = refl
  entry_agrees (Holds v) k = ap Holds (value_agrees v k)
  entry_agrees UpperHalf k = refl

  pub values_agree : (vs : List Value) → AllMay P (map ref_of vs) → map (named_value h) vs ≡ map (named_value g) vs
  values_agree [] k = refl
  values_agree (v ∷ vs) k = rw (value_agrees v k.0, values_agree vs k.1) refl

  entries_agree : (es : List Entry) → AllMay P (map entry_ref es) → map (named_entry h) es ≡ map (named_entry g) es
  entries_agree [] k = refl
  entries_agree (e ∷ es) k = rw (entry_agrees e k.0, entries_agree es k.1) refl

  pub fields_agree : (fs : List FieldValue) → AllMay P (map field_ref fs) → map (named_field h) fs
      ≡ map (named_field g) fs
  fields_agree [] k = refl
  fields_agree (f ∷ fs) k = rw (value_agrees f.value k.0, fields_agree fs k.1) refl

  pub contents_agree : (c : Contents) → AllMay P (contents_refs c) → named_contents h c ≡ named_contents g c
  contents_agree (Instance class fields) k = ap (Instance class) (fields_agree fields k)
  contents_agree (Array element values) k = ap (Array element) (values_agree values k)

  pub record FrameMay (f : Frame) : Type 0 where
    pub locals : AllMay P (map entry_ref f.locals)
    pub stack : AllMay P (map ref_of f.stack)
    pub monitor : (b : ℕ) → f.monitor ≡ Some b → P b

  pub frame_agrees : (f : Frame) → FrameMay f → named_frame h f ≡ named_frame g f
  frame_agrees f k = rw (entries_agree f.locals k.locals, values_agree f.stack k.stack, ref_agrees f.monitor k.monitor)
      refl

  frames_agree : (fs : List Frame) → ((d : ℕ) (f : Frame) → slice_get fs d ≡ Some f → FrameMay f)
      → map (named_frame h) fs ≡ map (named_frame g) fs
  frames_agree [] k = refl
  frames_agree (f ∷ fs) k = rw (frame_agrees f (k 0 f refl), frames_agree fs (λ d. k (suc d))) refl

  thread_agrees : (t : Thread) → ((d : ℕ) (f : Frame) → slice_get (frames_of (Some t)) d ≡ Some f → FrameMay f)
      → named_thread h t ≡ named_thread g t
  thread_agrees (Live frames) k = ap Live (frames_agree frames k)
  thread_agrees (Ended by) k = refl

  pub threads_agree : (ts : List Thread) → ((t d : ℕ) (f : Frame) → slice_get (frames_of (slice_get ts t)) d ≡ Some f
      → FrameMay f) → map (named_thread h) ts ≡ map (named_thread g) ts
  threads_agree [] k = refl
  threads_agree (t ∷ ts) k = rw (thread_agrees t (k 0), threads_agree ts (λ u. k (suc u))) refl

-- what leads nowhere
nowhere_values : (h : Naming) (vs : List Value) → LeadNowhere (map ref_of vs) → map (named_value h) vs ≡ vs
nowhere_values h [] k = refl
nowhere_values h (Int z ∷ vs) k = ap (λ rest. Int z ∷ rest) (nowhere_values h vs k)
nowhere_values h (Long z ∷ vs) k = ap (λ rest. Long z ∷ rest) (nowhere_values h vs k)
nowhere_values h (Ref None ∷ vs) k = ap (λ rest. Ref None ∷ rest) (nowhere_values h vs k)
nowhere_values h (Ref (Some b) ∷ vs) k = absurd k

nowhere_fields : (h : Naming) (fs : List FieldValue) → LeadNowhere (map field_ref fs) → map (named_field h) fs ≡ fs
nowhere_fields h [] k = refl
nowhere_fields h (f ∷ fs) k = go f.value k (λ l. nowhere_fields h fs l)
  where
    go : (v : Value) → LeadNowhere (ref_of v ∷ map field_ref fs)
        → (LeadNowhere (map field_ref fs) → map (named_field h) fs ≡ fs) → record f { value = named_value h v }
        ∷ map (named_field h) fs ≡ record f { value = v } ∷ fs
    go (Int z) k more = ap (λ rest. record f { value = Int z } ∷ rest) (more k)
    go (Long z) k more = ap (λ rest. record f { value = Long z } ∷ rest) (more k)
    go (Ref None) k more = ap (λ rest. record f { value = Ref None } ∷ rest) (more k)
    go (Ref (Some b)) k more = absurd k

pub nowhere_named : (h : Naming) (c : Contents) → LeadNowhere (contents_refs c) → named_contents h c ≡ c
nowhere_named h (Instance class fields) k = ap (Instance class) (nowhere_fields h fields k)
nowhere_named h (Array element values) k = ap (Array element) (nowhere_values h values k)
