use Rattle.std.specs.Prelude.{ℕ, Bool, not, ◌&&◌, ◌||◌, ◌==◌, bit_and, bit_or, List, [], ◌∷◌, codes, Option, Some, None}
use Rattle.std.specs.Prelude.{if◌then◌else◌}
use Rattle.model.specs.Texts.Tables.{named}

-- the flags that a class may have (JVMS 4.1)
abbrev pub class_flags : List (List ℕ × ℕ)
class_flags = (codes "public", 0x0001) ∷ (codes "final", 0x0010) ∷ (codes "abstract", 0x0400) ∷ []

-- the flags that an interface may have besides INTERFACE and ABSTRACT, which its directive stands for (JVMS 4.1)
abbrev pub interface_flags : List (List ℕ × ℕ)
interface_flags = (codes "public", 0x0001) ∷ []

-- the flags that a field may have (JVMS 4.5)
abbrev pub field_flags : List (List ℕ × ℕ)
field_flags =
    (codes "public", 0x0001) ∷ (codes "private", 0x0002) ∷ (codes "protected", 0x0004) ∷ (codes "static", 0x0008) ∷
    (codes "final", 0x0010) ∷ (codes "volatile", 0x0040) ∷ (codes "transient", 0x0080) ∷ []

-- the flags that a method may have (JVMS 4.6)
abbrev pub method_flags : List (List ℕ × ℕ)
method_flags =
    (codes "public", 0x0001) ∷ (codes "private", 0x0002) ∷ (codes "protected", 0x0004) ∷ (codes "static", 0x0008) ∷
    (codes "final", 0x0010) ∷ (codes "synchronized", 0x0020) ∷ (codes "native", 0x0100) ∷ (codes "abstract", 0x0400)
    ∷ []

-- whether a flag is among flags
abbrev pub has : ℕ → ℕ → Bool
has flags bit = not (bit_and flags bit == 0)

-- flags with one more, which may not be given twice
abbrev pub with_flag : ℕ → Option ℕ → Option ℕ
with_flag flags None = None
with_flag flags (Some bit) = if has flags bit then None else Some (bit_or flags bit)

-- words of which all but the last are flags: the flags, with those given before, and the last word
abbrev pub flagged : List (List ℕ × ℕ) → Option ℕ → List ℕ → List (List ℕ) → Option (ℕ × List ℕ)
flagged table None word words = None
flagged table (Some flags) word [] = Some (flags, word)
flagged table (Some flags) word (next ∷ words) = flagged table (with_flag flags (named table word)) next words

-- words of a statement after its directive: flags, and one word more
abbrev pub flags_and_word : List (List ℕ × ℕ) → List (List ℕ) → Option (ℕ × List ℕ)
flags_and_word table [] = None
flags_and_word table (word ∷ words) = flagged table (Some 0) word words

-- a class is not final and abstract (JVMS 4.1)
abbrev pub class_flags_agree : ℕ → Bool
class_flags_agree flags = not (has flags 0x0010 && has flags 0x0400)

-- an interface's field is public, static and final (JVMS 4.5)
abbrev pub field_flags_agree : ℕ → ℕ → Bool
field_flags_agree class flags = not (has class 0x0200) || bit_and flags 0x0019 == 0x0019

-- an abstract method is neither private, static, final, synchronized nor native, and an interface's method is public
-- and abstract (JVMS 4.6)
abbrev pub method_flags_agree : ℕ → ℕ → Bool
method_flags_agree class flags = not (has flags 0x0400 && has flags 0x013a)
    && (not (has class 0x0200) || (has flags 0x0001 && has flags 0x0400))
