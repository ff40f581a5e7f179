-- A Code attribute that is read is spelled so, and what spells one is read.
use Rattle.std.specs.Prelude.{◌||◌}
use Rattle.std.proofs.Common.{◌≡◌, ℕ, ◌+◌, ◌*◌, ◌^◌, ◌<◌, ◌≤◌, true, cond, eqb, List, [], ◌∷◌, ◌++◌, length, Result, Ok}
use Rattle.std.proofs.Common.{Err, refl, sym, ap, subst, ◌∙◌, append_assoc, arith, w16}
use Rattle.std.specs.List.{flat_map, AllByRecursion}
use Rattle.std.proofs.lemmas.List.{length-append, append-nil}
use Rattle.model.specs.Bytecode.{IsCode}
use Rattle.model.specs.ClassFiles.Numbers.{u2, u4}
use Rattle.model.specs.ClassFiles.Attributes.{Attribute, sized_bytes, attributes_bytes, AttributeFits}
use Rattle.model.specs.ClassFiles.Heads.{SpellsList, list_bytes}
use Rattle.model.specs.ClassFiles.Lists.{SpellsAll}
use Rattle.model.specs.ClassFiles.Codes.{CodeRow, CodePart, RowFits, SpellsCode, has_tag, is_sound, row_bytes}
use Rattle.model.specs.declared.bytecode.Located.{Located}
use Rattle.model.specs.declared.class_files.Entry.{Entry}
use Rattle.model.specs.declared.class_files.FormatFault.{FormatFault}
use Rattle.model.specs.declared.class_files.FormatFault.TheVariants as fault
use Rattle.opcodes.specs.declared.error.OpError.{OpError}
use Rattle.opcodes.proofs.CodeLaws.{each-true, true-each}
use Rattle.pool.specs.Reading.Steps.{◌>>=◌, number_at}
use Rattle.pool.proofs.Steps.{bind_ok, passed_ok, ok_is}
use Rattle.pool.proofs.FieldLemmas.{IsBytes, Takes, Takes-then, wide16, number_takes, number_again}
use Rattle.classfile.specs.Reading.Attributes.{sized_from, skipped_from}
use Rattle.classfile.specs.Reading.Codes.{are_sound, sound_from, row_from, limits_from, filled, tail_from, body_from}
use Rattle.classfile.specs.Reading.Codes.{within, code_from}
use Rattle.classfile.specs.Reading.Instructions.{decoded, as_format}
use Rattle.classfile.specs.Reading.Lists.{list_from}
use Rattle.classfile.specs.Writing.{code_bytes, code_info}
use Rattle.classfile.proofs.AttributeLemmas.{sized_takes, sized_again}
use Rattle.classfile.proofs.InstructionLaws.{decoded_is, code_is_decoded, code_bytes_are}
use Rattle.classfile.proofs.ListLaws.{Found, list_takes, list_again}
use Rattle.classfile.proofs.SkippedLaws.{skipped_takes, skipped_again}

-- ---- rows

abbrev SpellsRow : List Entry → List ℕ → CodeRow → Type 0
SpellsRow pool text r = (text ≡ row_bytes r) × RowFits pool r

row_takes : (pool : List Entry) (bytes : List ℕ) (x : CodeRow × List ℕ) → IsBytes bytes → row_from pool bytes ≡ Ok x
    → Found (SpellsRow pool) bytes x
unfolding row_from
row_takes pool bytes x fits e =
    let a = bind_ok (number_at w16 bytes) (λ start. number_at w16 start.1 >>= λ end. number_at w16 end.1
    >>= λ handler. number_at w16 handler.1 >>= λ class. cond (eqb class.0 0 || has_tag pool 7 class.0)
    (Ok (record { start = start.0; end = end.0; handler = handler.0; class = class.0 }, class.1))
    (Err fault.Index)) x e in
    let b = bind_ok (number_at w16 a.0.1) (λ end. number_at w16 end.1 >>= λ handler. number_at w16 handler.1
    >>= λ class. cond (eqb class.0 0 || has_tag pool 7 class.0)
    (Ok (record { start = a.0.0; end = end.0; handler = handler.0; class = class.0 }, class.1)) (Err fault.Index))
    x a.2 in
    let c = bind_ok (number_at w16 b.0.1) (λ handler. number_at w16 handler.1
    >>= λ class. cond (eqb class.0 0 || has_tag pool 7 class.0)
    (Ok (record { start = a.0.0; end = b.0.0; handler = handler.0; class = class.0 }, class.1)) (Err fault.Index))
    x b.2 in
    let d = bind_ok (number_at w16 c.0.1) (λ class. cond (eqb class.0 0 || has_tag pool 7 class.0)
    (Ok (record { start = a.0.0; end = b.0.0; handler = c.0.0; class = class.0 }, class.1)) (Err fault.Index)) x
    c.2 in
    let row : CodeRow = record { start = a.0.0; end = b.0.0; handler = c.0.0; class = d.0.0 } in
    let made : CodeRow × List ℕ = (row, d.0.1) in
    let p = passed_ok (eqb d.0.0 0 || has_tag pool 7 d.0.0) fault.Index (Ok made) x d.2 in
    let ta = number_takes w16 wide16 bytes a.0.0 a.0.1 fits a.1 in
    let tb = number_takes w16 wide16 a.0.1 b.0.0 b.0.1 ta.0.rest_fits b.1 in
    let tc = number_takes w16 wide16 b.0.1 c.0.0 c.0.1 tb.0.rest_fits c.1 in
    let td = number_takes w16 wide16 c.0.1 d.0.0 d.0.1 tc.0.rest_fits d.1 in
    let whole = Takes-then bytes (u2 a.0.0) a.0.1 (u2 b.0.0 ++ (u2 c.0.0 ++ u2 d.0.0)) d.0.1 ta.0
    (Takes-then a.0.1 (u2 b.0.0) b.0.1 (u2 c.0.0 ++ u2 d.0.0) d.0.1 tb.0
    (Takes-then b.0.1 (u2 c.0.0) c.0.1 (u2 d.0.0) d.0.1 tc.0 td.0)) in
    subst (Found (SpellsRow pool) bytes) (ok_is made x p.1) (record {
      text = row_bytes row;
      takes = whole;
      spells = (refl, record { start = ta.1; end = tb.1; handler = tc.1; class = td.1; kind = p.0 });
    })

row_again : (pool : List Entry) (text : List ℕ) (r : CodeRow) (rest : List ℕ) → SpellsRow pool text r
    → row_from pool (text ++ rest) ≡ Ok (r, rest)
unfolding row_from
row_again pool text r rest s =
    let f = s.1 in
    ap (λ (t : List ℕ). row_from pool (t ++ rest)) s.0 ∙ rw (
      number_again w16 wide16 r.start (u2 r.end ++ (u2 r.handler ++ (u2 r.class ++ rest))) f.start,
      number_again w16 wide16 r.end (u2 r.handler ++ (u2 r.class ++ rest)) f.end,
      number_again w16 wide16 r.handler (u2 r.class ++ rest) f.handler,
      number_again w16 wide16 r.class rest f.class,
      f.kind,
    ) refl

rows_are : (pool : List Entry) (body : List ℕ) (rows : List CodeRow) → SpellsAll (SpellsRow pool) body rows
    → (body ≡ flat_map row_bytes rows) × AllByRecursion (RowFits pool) rows
rows_are pool body [] s = (s, tt)
rows_are pool body (r ∷ rows) s =
    let others = rows_are pool s.1 rows s.4 in
    (s.2 ∙ ap (λ (t : List ℕ). t ++ s.1) s.3.0 ∙ ap (λ (t : List ℕ). row_bytes r ++ t) others.0, (s.3.1, others.1))

rows_spell : (pool : List Entry) (rows : List CodeRow) → AllByRecursion (RowFits pool) rows
    → SpellsAll (SpellsRow pool) (flat_map row_bytes rows) rows
rows_spell pool [] fit = refl
rows_spell pool (r ∷ rows) fit = (row_bytes r, flat_map row_bytes rows, refl, (refl, fit.0), rows_spell pool rows fit.1)

-- ---- limits

pub record AreLimits (bytes : List ℕ) (x : ((ℕ × ℕ) × List ℕ) × List ℕ) : Type 0 where
  pub takes : Takes bytes (u2 x.0.0.0 ++ (u2 x.0.0.1 ++ sized_bytes x.0.1)) x.1
  pub stack : x.0.0.0 < 2 ^ 16
  pub locals : x.0.0.1 < 2 ^ 16
  pub code_fits : IsBytes x.0.1

limits_take : (bytes : List ℕ) (x : ((ℕ × ℕ) × List ℕ) × List ℕ) → IsBytes bytes → limits_from bytes ≡ Ok x
    → AreLimits bytes x
unfolding limits_from
limits_take bytes x fits e =
    let a = bind_ok (number_at w16 bytes) (λ stack. number_at w16 stack.1 >>= λ locals. sized_from locals.1
    >>= λ code. Ok (((stack.0, locals.0), code.0), code.1)) x e in
    let b = bind_ok (number_at w16 a.0.1) (λ locals. sized_from locals.1 >>= λ code. Ok (
      ((a.0.0, locals.0), code.0),
      code.1,
    )) x a.2 in
    let c = bind_ok (sized_from b.0.1) (λ code. Ok (((a.0.0, b.0.0), code.0), code.1)) x b.2 in
    let ta = number_takes w16 wide16 bytes a.0.0 a.0.1 fits a.1 in
    let tb = number_takes w16 wide16 a.0.1 b.0.0 b.0.1 ta.0.rest_fits b.1 in
    let tc = sized_takes b.0.1 c.0 tb.0.rest_fits c.1 in
    let made : ((ℕ × ℕ) × List ℕ) × List ℕ = (((a.0.0, b.0.0), c.0.0), c.0.1) in
    let whole = Takes-then bytes (u2 a.0.0) a.0.1 (u2 b.0.0 ++ sized_bytes c.0.0) c.0.1 ta.0
    (Takes-then a.0.1 (u2 b.0.0) b.0.1 (sized_bytes c.0.0) c.0.1 tb.0 tc.takes) in
    subst (AreLimits bytes) (ok_is made x c.2) (record {
      takes = whole;
      stack = ta.1;
      locals = tb.1;
      code_fits = tc.bytes_fit;
    })

limits_again : (stack locals : ℕ) (code rest : List ℕ) → stack < 2 ^ 16 → locals < 2 ^ 16 → length code < 2 ^ 32
    → limits_from (u2 stack ++ (u2 locals ++ (sized_bytes code ++ rest))) ≡ Ok (((stack, locals), code), rest)
unfolding limits_from
limits_again stack locals code rest s l small = rw (
  number_again w16 wide16 stack (u2 locals
      ++ (sized_bytes code ++ rest)) s,
  number_again w16 wide16 locals (sized_bytes code ++ rest) l,
  sized_again code rest small,
) refl

-- ---- instructions

format_ok : {A : Type 0} (r : Result A OpError) (x : A) → as_format r ≡ Ok x → r ≡ Ok x
format_ok (Ok y) x e = ap (λ (z : _). Ok z) (ok_is y x e)
format_ok (Err d) x e = absurd cc

sound_is : (pool : List Entry) (code : List ℕ) (items : List Located) → IsBytes code → sound_from pool code ≡ Ok items
    → IsCode code items × AllByRecursion (λ x. is_sound pool x.instruction ≡ true) items
unfolding sound_from
sound_is pool code items fits e =
    let b = bind_ok (as_format (decoded code)) (λ xs. cond (are_sound pool xs) (Ok xs) (Err fault.Index)) items e in
    let p = passed_ok (are_sound pool b.0) fault.Index (Ok b.0) items b.2 in
    subst (λ (xs : List Located). IsCode code xs × AllByRecursion (λ x. is_sound pool x.instruction ≡ true) xs)
    (ok_is b.0 items p.1)
    (decoded_is code b.0 fits (format_ok (decoded code) b.0 b.1), each-true (λ x. is_sound pool x.instruction) b.0 p.0)

sound_again : (pool : List Entry) (code : List ℕ) (items : List Located) → IsCode code items
    → AllByRecursion (λ x. is_sound pool x.instruction ≡ true) items → sound_from pool code ≡ Ok items
unfolding sound_from
sound_again pool code items is sound = rw (
  code_is_decoded code items is,
  true-each (λ x. is_sound pool x.instruction) items sound,
) refl

-- ---- rows and attributes up to the end

filled_is : {A : Type 0} (x y : A) (rest : List ℕ) → filled x rest ≡ Ok y → (x ≡ y) × (rest ≡ [])
filled_is x y [] e = (ok_is x y e, refl)
filled_is x y (b ∷ rest) e = absurd cc

pub record IsTail (pool : List Entry) (bytes : List ℕ) (rows : List CodeRow) : Type 0 where
  pub few : length rows < 2 ^ 16
  pub fit : AllByRecursion (RowFits pool) rows
  pub attributes : List Attribute
  pub attributes_few : length attributes < 2 ^ 16
  pub attributes_fit : AllByRecursion (AttributeFits pool) attributes
  pub bytes_are : bytes ≡ list_bytes row_bytes rows ++ attributes_bytes attributes

tail_is : (pool : List Entry) (bytes : List ℕ) (rows : List CodeRow) → IsBytes bytes → tail_from pool bytes ≡ Ok rows
    → IsTail pool bytes rows
unfolding tail_from
tail_is pool bytes rows fits e =
    let a = bind_ok (list_from (row_from pool) bytes) (λ rs. skipped_from pool rs.1
    >>= λ attributes. filled rs.0 attributes.1) rows e in
    let b = bind_ok (skipped_from pool a.0.1) (λ attributes. filled a.0.0 attributes.1) rows a.2 in
    let end = filled_is a.0.0 rows b.0.1 b.2 in
    let ta = list_takes (row_from pool) (SpellsRow pool) (λ more y h k. row_takes pool more y h k) bytes a.0 fits a.1 in
    let tb = skipped_takes pool a.0.1 b.0 ta.takes.rest_fits b.1 in
    let body = rows_are pool ta.spells.body a.0.0 ta.spells.all in
    let front : ta.text ≡ list_bytes row_bytes a.0.0 = ta.spells.bytes_are ∙ ap (λ (t : List ℕ). u2 (length a.0.0) ++ t)
    body.0 in
    let last : a.0.1 ≡ attributes_bytes tb.attributes = tb.takes.parts
    ∙ ap (λ (t : List ℕ). attributes_bytes tb.attributes ++ t) end.1 ∙ append-nil (attributes_bytes tb.attributes)
    in
    subst (IsTail pool bytes) end.0 (record {
      few = ta.spells.few;
      fit = body.1;
      attributes = tb.attributes;
      attributes_few = tb.few;
      attributes_fit = tb.fit;
      bytes_are = ta.takes.parts ∙ ap (λ (t : List ℕ). t ++ a.0.1) front
          ∙ ap (λ (t : List ℕ). list_bytes row_bytes a.0.0 ++ t) last;
    })

tail_again : (pool : List Entry) (rows : List CodeRow) (attributes : List Attribute) → length rows < 2 ^ 16
    → AllByRecursion (RowFits pool) rows → length attributes < 2 ^ 16 → AllByRecursion (AttributeFits pool) attributes
    → tail_from pool (list_bytes row_bytes rows ++ attributes_bytes attributes) ≡ Ok rows
unfolding tail_from
tail_again pool rows attributes few fit attributes_few attributes_fit =
    let spelled : SpellsList (SpellsRow pool) (list_bytes row_bytes rows) rows = record {
      few = few;
      body = flat_map row_bytes rows;
      bytes_are = refl;
      all = rows_spell pool rows fit;
    } in
    let skipped : skipped_from pool (attributes_bytes attributes)
    ≡ Ok (0, []) = ap (skipped_from pool) (sym (append-nil (attributes_bytes attributes)))
    ∙ skipped_again pool attributes [] attributes_few attributes_fit in
    rw (
      list_again (row_from pool) (SpellsRow pool) (λ t x r k. row_again pool t x r k) (list_bytes row_bytes rows) rows
          (attributes_bytes attributes) spelled,
      skipped,
    ) refl

-- ---- the attribute

pub record IsBody (pool : List Entry) (name : ℕ) (info : List ℕ) (c : CodePart) : Type 0 where
  pub name_is : name ≡ c.name
  pub spells : SpellsCode pool info c

body_is : (pool : List Entry) (name : ℕ) (info : List ℕ) (c : CodePart) → IsBytes info → body_from pool name info ≡ Ok c
    → IsBody pool name info c
unfolding body_from
body_is pool name info c fits e =
    let a = bind_ok (limits_from info) (λ limits. sound_from pool limits.0.1 >>= λ items. tail_from pool limits.1
    >>= λ rows. Ok (record {
      name = name;
      max_stack = limits.0.0.0;
      max_locals = limits.0.0.1;
      instructions = items;
      rows = rows;
    })) c e in
    let b = bind_ok (sound_from pool a.0.0.1) (λ items. tail_from pool a.0.1
    >>= λ rows. Ok (record {
      name = name;
      max_stack = a.0.0.0.0;
      max_locals = a.0.0.0.1;
      instructions = items;
      rows = rows;
    })) c a.2 in
    let d = bind_ok (tail_from pool a.0.1)
    (λ rows. Ok (record {
      name = name;
      max_stack = a.0.0.0.0;
      max_locals = a.0.0.0.1;
      instructions = b.0;
      rows = rows;
    })) c b.2 in
    let ta = limits_take info a.0 fits a.1 in
    let tb = sound_is pool a.0.0.1 b.0 ta.code_fits b.1 in
    let td = tail_is pool a.0.1 d.0 ta.takes.rest_fits d.1 in
    let made : CodePart = record {
      name = name;
      max_stack = a.0.0.0.0;
      max_locals = a.0.0.0.1;
      instructions = b.0;
      rows = d.0;
    } in
    let end = list_bytes row_bytes d.0 ++ attributes_bytes td.attributes in
    let front = u2 a.0.0.0.0 ++ (u2 a.0.0.0.1 ++ sized_bytes a.0.0.1) in
    let parts : info ≡ u2 a.0.0.0.0 ++ (u2 a.0.0.0.1 ++ (sized_bytes a.0.0.1 ++ end)) = ta.takes.parts
    ∙ ap (λ (t : List ℕ). front ++ t) td.bytes_are
    ∙ append_assoc (u2 a.0.0.0.0) (u2 a.0.0.0.1 ++ sized_bytes a.0.0.1) end
    ∙ ap (λ (t : List ℕ). u2 a.0.0.0.0 ++ t) (append_assoc (u2 a.0.0.0.1) (sized_bytes a.0.0.1) end) in
    subst (IsBody pool name info) (ok_is made c d.2) (record {
      name_is = refl;
      spells = record {
        stack_fits = ta.stack;
        locals_fit = ta.locals;
        code = a.0.0.1;
        is_code = tb.0;
        sound = tb.1;
        rows_few = td.few;
        rows_fit = td.fit;
        attributes = td.attributes;
        attributes_few = td.attributes_few;
        attributes_fit = td.attributes_fit;
        info_is = parts;
      };
    })

body_again : (pool : List Entry) (info : List ℕ) (c : CodePart) → SpellsCode pool info c → body_from pool c.name info
    ≡ Ok c
unfolding body_from
body_again pool info c s =
    let end = list_bytes row_bytes c.rows ++ attributes_bytes s.attributes in
    let few = s.is_code.few in
    ap (body_from pool c.name) s.info_is ∙ rw (
      limits_again c.max_stack c.max_locals s.code end s.stack_fits s.locals_fit (omega arith),
      sound_again pool s.code c.instructions s.is_code s.sound,
      tail_again pool c.rows s.attributes s.rows_few s.rows_fit s.attributes_few s.attributes_fit,
    ) refl

within_ok : {A : Type 0} (r : Result A FormatFault) (x : A) → within r ≡ Ok x → r ≡ Ok x
within_ok (Ok y) x e = e
within_ok (Err f) x e = absurd cc

pub code_is : (pool : List Entry) (name : ℕ) (info : List ℕ) (c : CodePart) → IsBytes info → code_from pool name info
    ≡ Ok c → IsBody pool name info c
unfolding code_from
code_is pool name info c fits e = body_is pool name info c fits (within_ok (body_from pool name info) c e)

pub code_again : (pool : List Entry) (info : List ℕ) (c : CodePart) → SpellsCode pool info c → code_from pool c.name
    info ≡ Ok c
unfolding code_from
code_again pool info c s = rw (body_again pool info c s) refl

-- ---- what is written

rows_length : (rows : List CodeRow) → length (flat_map row_bytes rows) ≡ 8 * length rows
rows_length [] = refl
rows_length (r ∷ rows) = let others = rows_length rows
    in let both = length-append (row_bytes r) (flat_map row_bytes rows) in omega arith

pub info_has : (c : CodePart) → length (code_info c) ≡ 12 + length (code_bytes c.instructions) + 8 * length c.rows
unfolding code_info
info_has c =
    let rows = rows_length c.rows in
    let end = length-append (list_bytes row_bytes c.rows) (attributes_bytes []) in
    let code = length-append (code_bytes c.instructions) (list_bytes row_bytes c.rows ++ attributes_bytes []) in
    let sized = ap length (append_assoc (u4 (length (code_bytes c.instructions))) (code_bytes c.instructions)
    (list_bytes row_bytes c.rows ++ attributes_bytes [])) in
    omega arith

pub code_written : (pool : List Entry) (info : List ℕ) (c : CodePart) → SpellsCode pool info c
    → SpellsCode pool (code_info c) c
unfolding code_info
code_written pool info c s = record {
  stack_fits = s.stack_fits;
  locals_fit = s.locals_fit;
  code = code_bytes c.instructions;
  is_code = subst (λ (bytes : List ℕ). IsCode bytes c.instructions) (code_bytes_are s.code c.instructions s.is_code)
      s.is_code;
  sound = s.sound;
  rows_few = s.rows_few;
  rows_fit = s.rows_fit;
  attributes = [];
  attributes_few = omega arith;
  attributes_fit = tt;
  info_is = refl;
}

pub code_short : (pool : List Entry) (info : List ℕ) (c : CodePart) → SpellsCode pool info c
    → length (code_bytes c.instructions) ≤ 65535
code_short pool info c s = subst (λ (bytes : List ℕ). length bytes ≤ 65535)
    (code_bytes_are s.code c.instructions s.is_code) s.is_code.few
