use Rattle.std.proofs.Common.{◌≡◌, [], refl}
use Rattle.std.proofs.lemmas.Int.{to_z-of_z}
use mir.Val.{to_z, of_z}
use mir.Syntax.{w32}
use Rattle.model.specs.ClassFiles.Items.Item.{int_item}
use Rattle.assembler.proofs.NumberingBuilding.{int_entry}
use Rattle.assembler.proofs.StayingLaws.{item_found, item_only}
use Rattle.assembler.proofs.pool_numbers.Numbers.int.Goals as goal

pub entry-requires : goal.entry-requires
entry-requires c =
    let same : to_z w32 (of_z w32 c.args.value) ≡ c.args.value = to_z-of_z w32 c.args.value c.ranges.value in
    (int_entry c.args.self.now (to_z w32 (of_z w32 c.args.value)) c.args.value same).0

pub returns-clause-found : goal.returns-clause-found
returns-clause-found c =
    let same : to_z w32 (of_z w32 c.args.value) ≡ c.args.value = to_z-of_z w32 c.args.value c.ranges.value in
    item_found c.args.self.now c.args.self.now c.entry.new.self [] _ (int_item c.args.value) c.entry.result
    (λ later. refl) (int_entry c.args.self.now (to_z w32 (of_z w32 c.args.value)) c.args.value same).1
    c.entry.ensures.found

pub returns-clause-only : goal.returns-clause-only
returns-clause-only c =
    let same : to_z w32 (of_z w32 c.args.value) ≡ c.args.value = to_z-of_z w32 c.args.value c.ranges.value in
    item_only c.args.self.now c.args.self.now [] _ (int_item c.args.value) c.entry.result (λ later. refl)
    (int_entry c.args.self.now (to_z w32 (of_z w32 c.args.value)) c.args.value same).1 c.entry.ensures.only
