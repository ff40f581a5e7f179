-- Steps of reading, taken apart.
use Rattle.std.proofs.Common.{◌≡◌, Bool, true, false, cond, Result, Ok, Err, refl, inl, inr, ◌⊎◌}
use Rattle.model.specs.declared.class_files.FormatFault.{FormatFault}
use Rattle.pool.specs.declared.error.ReadError.{ReadError}
use Rattle.pool.specs.declared.error.ReadError.TheVariants as error
use Rattle.pool.specs.Reading.Steps.{◌>>=◌, Fails}

-- the value of a step that did not fail
pub bind_ok : {A B F : Type 0} (r : Result A F) (f : A → Result B F) (y : B) → (r >>= f) ≡ Ok y → (x : A) × (r ≡ Ok x)
    × (f x ≡ Ok y)
bind_ok (Ok x) f y e = (x, refl, e)
bind_ok (Err d) f y e = absurd cc

-- a test that did not fail
pub guard_ok : {A F : Type 0} (b : Bool) (d : F) (r : Result A F) (y : A) → cond b (Err d) r ≡ Ok y → (b ≡ false)
    × (r ≡ Ok y)
guard_ok true d r y e = absurd cc
guard_ok false d r y e = (refl, e)

-- a test that passed
pub passed_ok : {A F : Type 0} (b : Bool) (d : F) (r : Result A F) (y : A) → cond b r (Err d) ≡ Ok y → (b ≡ true)
    × (r ≡ Ok y)
passed_ok true d r y e = (refl, e)
passed_ok false d r y e = absurd cc

-- which way a test went
pub chosen : {A : Type 0} (b : Bool) (x y z : A) → cond b x y ≡ z → ((b ≡ true) × (x ≡ z)) ⊎ ((b ≡ false) × (y ≡ z))
chosen true x y z e = inl (refl, e)
chosen false x y z e = inr (refl, e)

abbrev done : {A : Type 0} → A → Result A FormatFault
done x = Ok x

pub ok_is : {A : Type 0} (x y : A) → done x ≡ done y → x ≡ y
ok_is x y e = cc

-- a step that failed fails all that it is part of
pub fails-then : {A B : Type 0} (e : ReadError) (r : Result A FormatFault) (f : A → Result B FormatFault) → Fails e r
    → Fails e (r >>= f)
fails-then error.Memory r f h = tt
fails-then (error.Format d) r f h = rw h refl

pub fails-is : {A : Type 0} (e : ReadError) (r s : Result A FormatFault) → r ≡ s → Fails e r → Fails e s
fails-is e r s same h = rw (← same) h
