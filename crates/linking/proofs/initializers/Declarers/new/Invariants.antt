use Rattle.std.proofs.Common.{◌≡◌, ◌||◌, drop}
use Rattle.std.specs.List.{list_any}
use Rattle.std.specs.Str.{bytes_eq}
use Rattle.resolve.specs.declared.keys.NameKey.{NameKey}
use Rattle.linking.specs.Initializers.{declares_named}
use Rattle.linking.proofs.initializers.Declarers.new.Given as goal

-- a name is there, or the rest of the program has it
abbrev pub invariant-loop-class : goal.invariant-loop-class
invariant-loop-class l =
    (name : NameKey)
    → (list_any (λ k. bytes_eq name.bytes.now k.bytes.now) l.names.keys || declares_named (drop l.class-index l.program)
    name.bytes.now) ≡ declares_named l.program name.bytes.now
