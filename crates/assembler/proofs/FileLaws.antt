-- What the class file of a listing tells of the pool and of the code.
use Rattle.std.proofs.Common.{◌≡◌, ℕ, ◌<◌, ◌^◌, Bool, List, [], ◌∷◌, map, sym, ◌∙◌, ap, subst, append-nil, Option, Some}
use Rattle.std.proofs.Common.{None}
use Rattle.std.specs.List.{AllByRecursion}
use Rattle.std.specs.Option.{option_map}
use Rattle.model.specs.ClassFiles.Items.{Item, with_items, listing_items}
use Rattle.model.specs.ClassListings.{ClassListing}
use Rattle.model.specs.CodeListings.{CodeListing}
use Rattle.model.specs.ClassFiles.Methods.{wants_code}
use Rattle.model.specs.declared.class_files.Entry.{Entry}
use Rattle.model.specs.declared.listings.Method.{Method}
use Rattle.classfile.specs.Classes.{IsClass}
use Rattle.classfile.specs.Made.{BodyPart, made}
use Rattle.classfile.specs.Sound.{CodesStand, MethodStands}
use Rattle.classfile.proofs.SoundLaws.{standing_methods, standing_code}
use Rattle.assembler.specs.Assembled.{Stays, HasRoom, HasCode, assembled_code, assembled_method, assembled_body}
use Rattle.assembler.specs.Assembled.{assembled, file_flags}
use Rattle.assembler.specs.Numbering.{entries_of}
use Rattle.assembler.proofs.NumberingEntries.{count_is}

pub has_room : (items : List Item) (l : ClassListing) → IsClass (assembled items l) → HasRoom items
has_room items l is = subst (λ n. n < 2 ^ 16) (count_is items) is.1.head_spells.pool_fits.0

code_of : (pool : List Entry) (items : List Item) (wanted : Bool) (o : Option CodeListing)
    → CodesStand pool wanted (option_map (assembled_code items) o) → HasCode items o
code_of pool items wanted None s = tt
code_of pool items wanted (Some c) s = (s.1.spells.code, s.1.spells.is_code)

codes_of : (pool : List Entry) (class : ℕ) (items : List Item) (ms : List Method)
    → AllByRecursion (MethodStands pool class) (map (assembled_method items) ms)
    → AllByRecursion (λ m. HasCode items m.code) ms
codes_of pool class items [] all = tt
codes_of pool class items (m ∷ ms) all = (
  code_of pool items (wants_code m.flags.0) m.code
      (standing_code pool class (assembled_method items m) all.0),
  codes_of pool class items ms all.1,
)

pub have_code : (items : List Item) (l : ClassListing) → IsClass (assembled items l)
    → AllByRecursion (λ m. HasCode items m.code) l.methods
have_code items l is = codes_of (entries_of items) (file_flags l.flags).0 items l.methods
    ((standing_methods (assembled items l) is).1)

-- ---- a pool with nothing added later

pub whole : (old new : List Item) (l : ClassListing) (body : BodyPart)
    → Stays old (listing_items l) new (λ items. assembled_body items l) body → with_items old (listing_items l) ≡ new
whole old new l body s = ap (with_items old) (sym (append-nil (listing_items l))) ∙ (s []).0

pub made_is : (old new : List Item) (l : ClassListing) (body : BodyPart)
    → Stays old (listing_items l) new (λ items. assembled_body items l) body → made (entries_of new) body
    ≡ assembled (with_items old (listing_items l)) l
made_is old new l body s = ap (made (entries_of new)) ((s []).1)
    ∙ ap (λ items. assembled items l) (sym (whole old new l body s))
