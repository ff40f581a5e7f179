-- What a command line says of an option's number.
use Rattle.std.specs.Prelude.{◌≡◌, ◌<◌, ◌^◌, ℕ, List, codes, Option, Some, None, unwrap_or}
use Rattle.std.specs.Str.Parse.{IsNumeral, digits_value, without_leading_plus}
use Rattle.clap.specs.declared.parser.matches.Found.{Found}
use Rattle.clap.specs.Words.{one_text}
use Rattle.command_line.specs.declared.options.ExploreOptions.{ExploreOptions}
use Rattle.command_line.specs.declared.options.RunOptions.{RunOptions}
use Rattle.command_line.specs.declared.options.WorldOptions.{WorldOptions}

-- the number of 32 bits that a text spells in decimal digits, if it spells one; a plus may stand first
abbrev pub ReadsAs : List ℕ → Option ℕ → Type 0
ReadsAs text (Some n) = n ≡ digits_value 10 (without_leading_plus text)
ReadsAs text None = IsNumeral 10 (without_leading_plus text) → digits_value 10 (without_leading_plus text) < 2 ^ 32 → ⊥

-- what the words say after an option's name, and 0 where that is no number
pub record IsNumber (words : Found) (name : List ℕ) (n : ℕ) : Type 0 where
  pub read : Option ℕ
  pub is : n ≡ unwrap_or read 0
  pub of_text : (text : List ℕ) → one_text words name ≡ Some text → ReadsAs text read
  pub of_none : one_text words name ≡ None → read ≡ None

-- each number stands after its own name
pub record HasLimits (words : Found) (options : WorldOptions) : Type 0 where
  pub small : IsNumber words (codes "small") options.small
  pub medium : IsNumber words (codes "medium") options.medium
  pub large : IsNumber words (codes "large") options.large
  pub steps : IsNumber words (codes "steps") options.steps
  pub output : IsNumber words (codes "output") options.output

pub record HasNumbers (words : Found) (options : RunOptions) : Type 0 where
  pub world : HasLimits words options.world
  pub gc : IsNumber words (codes "gc") options.gc
  pub carriers : IsNumber words (codes "carriers") options.carriers

pub record HasBounds (words : Found) (options : ExploreOptions) : Type 0 where
  pub states : IsNumber words (codes "states") options.states
  pub steps : IsNumber words (codes "steps") options.limits.steps
  pub output : IsNumber words (codes "output") options.limits.output
  pub split : IsNumber words (codes "split") (unwrap_or options.split 0)
  pub workers : IsNumber words (codes "workers") options.workers
