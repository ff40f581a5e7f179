use Rattle.std.proofs.Common.{◌≡◌, [], ◌∙◌, refl}
use Rattle.model.specs.ClassFiles.Items.Item.{text_item}
use Rattle.assembler.proofs.NumberingBuilding.{text_entry}
use Rattle.assembler.proofs.StayingLaws.{item_found, item_only}
use Rattle.assembler.proofs.pool_numbers.Numbers.attribute.Goals as goal

pub entry-requires : goal.entry-requires
entry-requires c =
    let same : c.in_ok-copy.copy ≡ c.args.name.now = c.in_ok-copy.ensures ∙ c.as_bytes.ensures.value in
    (text_entry c.args.self.now c.in_ok-copy.copy c.args.name.now same).0

pub returns-clause-found : goal.returns-clause-found
returns-clause-found c =
    let same : c.in_ok-copy.copy ≡ c.args.name.now = c.in_ok-copy.ensures ∙ c.as_bytes.ensures.value in
    item_found c.args.self.now c.args.self.now c.entry.new.self [] _ (text_item c.args.name.now) c.entry.result
    (λ later. refl) (text_entry c.args.self.now c.in_ok-copy.copy c.args.name.now same).1 c.entry.ensures.found

pub returns-clause-only : goal.returns-clause-only
returns-clause-only c =
    let same : c.in_ok-copy.copy ≡ c.args.name.now = c.in_ok-copy.ensures ∙ c.as_bytes.ensures.value in
    item_only c.args.self.now c.args.self.now [] _ (text_item c.args.name.now) c.entry.result (λ later. refl)
    (text_entry c.args.self.now c.in_ok-copy.copy c.args.name.now same).1 c.entry.ensures.only
