-- Parts of no class file are refused as their bytes are.
use Rattle.std.proofs.Common.{◌≡◌, ℕ, true, ◌&&◌, List, ◌++◌, Option, Some, None, Result, Err, refl, sym}
use Rattle.std.proofs.Common.{ap, subst, ◌∙◌, append_assoc, [], ◌∷◌, length, arith}
use Rattle.std.proofs.lemmas.Bool.{leb-true}
use Rattle.std.specs.List.{list_all, AllByRecursion}
use Rattle.model.specs.ClassFiles.Classes.{ClassPart}
use Rattle.model.specs.ClassFiles.Codes.{CodePart}
use Rattle.model.specs.ClassFiles.Heads.{opening, after_bytes}
use Rattle.model.specs.ClassFiles.Methods.{MethodPart}
use Rattle.model.specs.ClassFiles.Pools.{pool_bytes, PoolFits}
use Rattle.model.specs.ClassFiles.References.{first_fault}
use Rattle.model.specs.declared.class_files.Entry.{Entry}
use Rattle.model.specs.declared.class_files.FormatFault.{FormatFault}
use Rattle.pool.specs.declared.error.ReadError.{ReadError}
use Rattle.pool.specs.declared.error.ReadError.TheVariants as read
use Rattle.pool.specs.Making.{entries_fault}
use Rattle.pool.specs.Reading.Pools.{pool_from, unless}
use Rattle.pool.specs.Reading.Steps.{Fails}
use Rattle.pool.proofs.BuilderLemmas.{all_have_bytes}
use Rattle.pool.proofs.PoolLemmas.{entries_again}
use Rattle.classfile.specs.declared.error.ClassError.{ClassError}
use Rattle.classfile.specs.Made.{IsRefused, IsTold, code_is_countable, fault_of, file_bytes, is_countable}
use Rattle.classfile.specs.Made.{lists_are_countable, method_is_countable}
use Rattle.classfile.specs.Reading.Answers.{shown}
use Rattle.classfile.specs.Reading.Classes.{file_from}
use Rattle.classfile.specs.Reading.Heads.{head_from}
use Rattle.classfile.specs.Writing.{CodesFit, MethodFits, after_head_bytes, code_bytes}
use Rattle.classfile.proofs.HeadLaws.{opening_again}
use Rattle.classfile.proofs.SoundLaws.{and_both}

-- ---- what the entries of the pool name

pool_refused : (c : ClassPart) (fault : FormatFault) → PoolFits c.head.pool
    → first_fault c.head.pool c.head.pool ≡ Some fault → file_from (file_bytes c) ≡ Err fault
unfolding file_from head_from pool_from
pool_refused c fault fits is =
    let rest = after_bytes c.head ++ after_head_bytes c.methods in
    let one : file_bytes c ≡ opening ++ (pool_bytes c.head.pool ++ rest) =
    append_assoc opening (pool_bytes c.head.pool ++ after_bytes c.head) (after_head_bytes c.methods)
    ∙ ap (λ (t : List ℕ). opening ++ t) (append_assoc (pool_bytes c.head.pool) (after_bytes c.head)
    (after_head_bytes c.methods)) in
    ap file_from one ∙ rw (
      opening_again (pool_bytes c.head.pool ++ rest),
      entries_again c.head.pool rest fits,
      is,
    ) refl

one_fault : (read : Result (List Entry) FormatFault) (x y : FormatFault) → read ≡ Err x → read ≡ Err y → x ≡ y
one_fault read x y e f = cc

by_entries : (c : ClassPart) (r : ReadError) (first : Option FormatFault) → PoolFits c.head.pool
    → first_fault c.head.pool c.head.pool ≡ first → Fails r (unless first c.head.pool)
    → IsTold (fault_of (file_from (file_bytes c))) r
by_entries c read.Memory first fits is fails = tt
by_entries c (read.Format told) None fits is fails = cc
by_entries c (read.Format told) (Some fault) fits is fails =
    ap fault_of (pool_refused c fault fits is) ∙ one_fault (unless (Some fault) c.head.pool) fault told refl fails

pub entries_refused : (c : ClassPart) (r : ReadError) (e : ClassError) → shown e ≡ r
    → Fails r (unless (entries_fault c.head.pool) c.head.pool) → IsRefused c e
entries_refused c r e is fails = λ fits countable.
    let pool = c.head.pool in
    let none : entries_fault pool ≡ first_fault pool pool = rw (all_have_bytes pool fits.1) refl in
    subst (λ (s : ReadError). IsTold (fault_of (file_from (file_bytes c))) s) (sym is)
    (by_entries c r (first_fault pool pool) fits refl
    (subst (λ (o : Option FormatFault). Fails r (unless o pool)) none fails))

-- ---- what can be written

code_fits : (o : Option CodePart) → code_is_countable o ≡ true → CodesFit o
code_fits None e = tt
code_fits (Some c) e =
    let both = and_both (is_countable (code_bytes c.instructions)) (is_countable c.rows) e in
    let few = leb-true (length (code_bytes c.instructions)) 65535 both.0 in
    let rows = leb-true (length c.rows) 65535 both.1 in
    (few, omega (arith, rows))

methods_fit : (methods : List MethodPart) → list_all method_is_countable methods ≡ true → AllByRecursion MethodFits methods
methods_fit [] e = tt
methods_fit (m ∷ methods) e =
    let both = and_both (method_is_countable m) (list_all method_is_countable methods) e in
    (code_fits m.code both.0, methods_fit methods both.1)

-- the methods of parts that can be written
pub countable_fit : (c : ClassPart) → lists_are_countable c ≡ true → AllByRecursion MethodFits c.methods
countable_fit c e =
    let inner = is_countable c.methods && list_all method_is_countable c.methods in
    let one = and_both (is_countable c.head.interfaces) (is_countable c.head.fields && inner) e in
    let two = and_both (is_countable c.head.fields) inner one.1 in
    methods_fit c.methods (and_both (is_countable c.methods) (list_all method_is_countable c.methods) two.1).1
