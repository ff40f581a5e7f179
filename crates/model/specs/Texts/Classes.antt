use Rattle.std.specs.Prelude.{ℕ, Bool, true, false, not, ◌&&◌, List, [], ◌∷◌, Option, Some, None, codes, if◌then◌else◌}
use Rattle.std.specs.Option.{option_map, option_and_then}
use Rattle.std.specs.Str.{bytes_eq}
use Rattle.model.specs.declared.flags.ClassFlags.{ClassFlags}
use Rattle.model.specs.declared.listings.Field.{Field}
use Rattle.model.specs.declared.trees.MethodTree.{MethodTree}
use Rattle.model.specs.Texts.Heads.{ClassHead, class_of, super_of, interface_of, field_of}
use Rattle.model.specs.Texts.Operands.{only}
use Rattle.model.specs.Texts.Methods.{method_tree}
use Rattle.model.specs.Texts.Statements.{Statement}
use Rattle.model.specs.Texts.Trees.{Tree}

abbrev pub is_word : List ℕ → Option (List ℕ) → Bool
is_word text None = false
is_word text (Some word) = bytes_eq word text

-- whether a statement is `.end method`
abbrev pub is_end_spelled : List (List ℕ) → Bool
is_end_spelled [] = false
is_end_spelled (word ∷ words) = bytes_eq word (codes ".end") && is_word (codes "method") (only words)

abbrev pub is_end : Statement → Bool
is_end None = false
is_end (Some words) = is_end_spelled words

-- a statement belongs to the block that ends after it
abbrev pub in_first_block : Statement → Option (List (List Statement)) → Option (List (List Statement))
in_first_block s None = None
in_first_block s (Some []) = None
in_first_block s (Some (block ∷ blocks)) = Some ((s ∷ block) ∷ blocks)

abbrev pub block_before : Bool → Statement → Option (List (List Statement)) → Option (List (List Statement))
block_before true s blocks = option_map (λ bs. [] ∷ bs) blocks
block_before false s blocks = in_first_block s blocks

-- statements in blocks, each of which ends by its `.end method`
abbrev pub blocks_of : List Statement → Option (List (List Statement))
blocks_of [] = Some []
blocks_of (s ∷ ss) = block_before (is_end s) s (blocks_of ss)

abbrev pub said_before : {A : Type 0} → Option A → Option (List A) → Option (List A)
said_before None rest = None
said_before (Some x) None = None
said_before (Some x) (Some xs) = Some (x ∷ xs)

-- what each of them says, if each says something
abbrev pub each : {A B : Type 0} → (A → Option B) → List A → Option (List B)
each said [] = Some []
each said (a ∷ rest) = said_before (said a) (each said rest)

-- the methods that statements spell
abbrev pub methods_of : ClassFlags → List Statement → Option (List MethodTree)
methods_of class ss = option_and_then (each (method_tree class)) (blocks_of ss)

-- whether a statement begins with another word
abbrev pub begins_otherwise : List ℕ → Statement → Bool
begins_otherwise word None = false
begins_otherwise word (Some []) = false
begins_otherwise word (Some (first ∷ words)) = not (bytes_eq first word)

-- the statements before the first that begins with another word, and those from there on
abbrev pub led_by : List ℕ → List Statement → List Statement
led_by word [] = []
led_by word (s ∷ ss) = if begins_otherwise word s then [] else s ∷ led_by word ss

abbrev pub after_led : List ℕ → List Statement → List Statement
after_led word [] = []
after_led word (s ∷ ss) = if begins_otherwise word s then s ∷ ss else after_led word ss

-- the interfaces that statements begin with
abbrev pub interfaces_of : List Statement → Option (List (List ℕ))
interfaces_of ss = each interface_of (led_by (codes ".implements") ss)

-- the fields that statements begin with
abbrev pub fields_of : ClassFlags → List Statement → Option (List Field)
fields_of class ss = each (field_of class) (led_by (codes ".field") ss)

abbrev pub tree_with : ClassHead → List ℕ → Option (List (List ℕ)) → Option (List Field) → Option (List MethodTree)
    → Option Tree
tree_with head super None fields methods = None
tree_with head super (Some is) None methods = None
tree_with head super (Some is) (Some fs) None = None
tree_with head super (Some is) (Some fs) (Some ms) =
    Some (record {
      flags = head.flags;
      name = head.name;
      superclass = super;
      interfaces = is;
      fields = fs;
      methods = ms;
    })

-- a class by its head, its superclass, and the statements of its fields and methods after those of its interfaces
abbrev pub members_after : ClassHead → List ℕ → Option (List (List ℕ)) → List Statement → Option Tree
members_after head super interfaces ss =
    tree_with head super interfaces (fields_of head.flags ss) (methods_of head.flags (after_led (codes ".field") ss))

abbrev pub members_under : ClassHead → Option (List ℕ) → List Statement → Option Tree
members_under head None ss = None
members_under head (Some super) ss = members_after head super (interfaces_of ss) (after_led (codes ".implements") ss)

abbrev pub super_under : Option ClassHead → List Statement → Option Tree
super_under None ss = None
super_under (Some head) [] = None
super_under (Some head) (s ∷ ss) = members_under head (super_of head.flags s) ss

-- a class or an interface: its head, its superclass, its interfaces, its fields and its methods, in this order
abbrev pub class_tree : List Statement → Option Tree
class_tree [] = None
class_tree (s ∷ ss) = super_under (class_of s) ss
