use Rattle.std.proofs.Common.{◌≡◌, [], refl}
use Rattle.std.proofs.lemmas.Int.{to_z-of_z}
use mir.Val.{to_z, of_z}
use mir.Syntax.{w64}
use Rattle.model.specs.ClassFiles.Items.Item.{long_item}
use Rattle.assembler.proofs.NumberingBuilding.{long_entry}
use Rattle.assembler.proofs.StayingLaws.{item_found, item_only}
use Rattle.assembler.proofs.pool_numbers.Numbers.long.Goals as goal

pub entry-requires : goal.entry-requires
entry-requires c =
    let same : to_z w64 (of_z w64 c.args.value) ≡ c.args.value = to_z-of_z w64 c.args.value c.ranges.value in
    (long_entry c.args.self.now (to_z w64 (of_z w64 c.args.value)) c.args.value same).0

pub returns-clause-found : goal.returns-clause-found
returns-clause-found c =
    let same : to_z w64 (of_z w64 c.args.value) ≡ c.args.value = to_z-of_z w64 c.args.value c.ranges.value in
    item_found c.args.self.now c.args.self.now c.entry.new.self [] _ (long_item c.args.value) c.entry.result
    (λ later. refl) (long_entry c.args.self.now (to_z w64 (of_z w64 c.args.value)) c.args.value same).1
    c.entry.ensures.found

pub returns-clause-only : goal.returns-clause-only
returns-clause-only c =
    let same : to_z w64 (of_z w64 c.args.value) ≡ c.args.value = to_z-of_z w64 c.args.value c.ranges.value in
    item_only c.args.self.now c.args.self.now [] _ (long_item c.args.value) c.entry.result (λ later. refl)
    (long_entry c.args.self.now (to_z w64 (of_z w64 c.args.value)) c.args.value same).1 c.entry.ensures.only
