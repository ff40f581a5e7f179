use Rattle.std.specs.Prelude.{ℕ, ◌&&◌, ◌==◌, nat_le, List, [], ◌∷◌, codes, drop, length, position, take, ◌+◌, Option, Some, None}
use Rattle.std.specs.Prelude.{Bool, if◌then◌else◌}
use Rattle.std.specs.List.{position_or_len}
use Rattle.std.specs.Option.{option_map}
use Rattle.std.specs.Str.{bytes_eq}
use Rattle.journal_texts.specs.JournalReading.{number_of}
use Rattle.model.specs.ClassFiles.References.{is_method}
use Rattle.model.specs.Texts.Names.{is_class_name}
use Rattle.debug_texts.specs.declared.commands.Command.{Command}
use Rattle.debug_texts.specs.declared.commands.Command.TheVariants as word

-- What a command line says. One space stands between two words, and none around them.

pub data Said : Type 0 where
  Break : (class name descriptor : List ℕ) (pc : ℕ) → Said
  Delete : (number : ℕ) → Said
  Step : (thread : ℕ) → Said
  Collect : Said
  Run : (turns : ℕ) → Said
  Stack : (thread : ℕ) → Said
  Object : (birth : ℕ) → Said
  Heap : Said
  Class : (name : List ℕ) → Said
  Quit : Said

-- what code says by slices
abbrev pub said : Command → Said
said (word.Break class name descriptor pc) = Break class.now name.now descriptor.now pc
said (word.Delete number) = Delete number
said (word.Step thread) = Step thread
said word.Collect = Collect
said (word.Run turns) = Run turns
said (word.Stack thread) = Stack thread
said (word.Object birth) = Object birth
said word.Heap = Heap
said (word.Class name) = Class name.now
said word.Quit = Quit

-- ---- words

abbrev pub cut_at : List ℕ → Option ℕ → Option (List ℕ × List ℕ)
cut_at bytes None = None
cut_at bytes (Some n) = Some (take n bytes, drop (n + 1) bytes)

-- what stands before the first such byte, and after it
abbrev pub cut : ℕ → List ℕ → Option (List ℕ × List ℕ)
cut byte bytes = cut_at bytes (position (λ b. b == byte) bytes)

abbrev pub kept_if : Bool → ℕ → Option ℕ
kept_if b n = if b then Some n else None

abbrev pub within : ℕ → ℕ → Option ℕ → Option ℕ
within least greatest None = None
within least greatest (Some n) = kept_if (nat_le least n && nat_le n greatest) n

abbrev pub thread_of : List ℕ → Option ℕ
thread_of word = within 0 255 (number_of word)

abbrev pub turns_of : List ℕ → Option ℕ
turns_of word = within 1 1000000 (number_of word)

-- ---- commands

-- a line of one word
abbrev pub alone : List ℕ → Option Said
alone word =
    if bytes_eq word (codes "gc") then Some Collect else if bytes_eq word (codes "heap") then Some Heap
    else if bytes_eq word (codes "quit") then Some Quit else None

-- C.m(A)R: a class, a method's name and its descriptor
abbrev pub break_in : List ℕ → List ℕ → List ℕ → Option ℕ → Option Said
break_in class name descriptor None = None
break_in class name descriptor (Some pc) =
    if is_class_name class && is_method name descriptor
    then Some (Break class name descriptor pc) else None

abbrev pub break_of : Option (List ℕ × List ℕ) → Option ℕ → Option Said
break_of None pc = None
break_of (Some (class, method)) pc =
    break_in class (take (position_or_len (λ b. b == 40) method) method)
    (drop (position_or_len (λ b. b == 40) method) method) pc

abbrev pub break_at : Option (List ℕ × List ℕ) → Option Said
break_at None = None
break_at (Some (member, pc)) = break_of (cut 46 member) (number_of pc)

abbrev pub class_of : List ℕ → Option Said
class_of name = if is_class_name name then Some (Class name) else None

-- a word, and what stands after the space behind it
abbrev pub with_operand : List ℕ → List ℕ → Option Said
with_operand word rest =
    if bytes_eq word (codes "break") then break_at (cut 32 rest)
    else if bytes_eq word (codes "delete") then option_map Delete (number_of rest)
    else if bytes_eq word (codes "step") then option_map Step (thread_of rest)
    else if bytes_eq word (codes "run") then option_map Run (turns_of rest)
    else if bytes_eq word (codes "stack") then option_map Stack (thread_of rest)
    else if bytes_eq word (codes "object") then option_map Object (number_of rest)
    else if bytes_eq word (codes "class") then class_of rest
    else None

abbrev pub command_at : List ℕ → Option (List ℕ × List ℕ) → Option Said
command_at line None = alone line
command_at line (Some (word, rest)) = with_operand word rest

-- a line has 200 bytes at most
abbrev pub command_of : List ℕ → Option Said
command_of line = if nat_le (length line) 200 then command_at line (cut 32 line) else None
