use Rattle.std.proofs.Common.{ap}
use Rattle.std.specs.Option.{option_copied}
use Rattle.instructions.proofs.InitializerBodies.{read-coded, read-no_code, read-none, read-own}
use Rattle.instructions.proofs.claims.initializer_limits.Goals as goal

pub returns-in-Coded : goal.returns-in-Coded
returns-in-Coded c =
    read-coded c.args.program.now c.args.class c.requires.accepted c.requires.listed (option_copied c.method.result)
    c.tables-tables.result.now.methods c.tables-tables.result.now.initializers c.initializer-place.result
    c.method.ensures c.tables-tables.ensures.methods_are c.initializer-place.ensures
    c.tables-tables.ensures.initializers_are c.in-Some.info.now c.body.result c.in-Coded.max_locals
    c.in-Coded.max_stack (ap option_copied c.in-Some.is) c.body.ensures c.in-Coded.is

pub returns-in-Own : goal.returns-in-Own
returns-in-Own c =
    absurd (read-own c.args.program.now c.args.class c.requires.accepted c.requires.listed
    (option_copied c.method.result)
    c.tables-tables.result.now.methods c.tables-tables.result.now.initializers c.initializer-place.result
    c.method.ensures c.tables-tables.ensures.methods_are c.initializer-place.ensures
    c.tables-tables.ensures.initializers_are c.in-Some.info.now c.body.result _ (ap option_copied c.in-Some.is)
    c.body.ensures c.in-Own.is)

pub returns-in-NoCode : goal.returns-in-NoCode
returns-in-NoCode c =
    absurd (read-no_code c.args.program.now c.args.class c.requires.accepted c.requires.listed
    (option_copied c.method.result) c.tables-tables.result.now.methods c.tables-tables.result.now.initializers
    c.initializer-place.result c.method.ensures c.tables-tables.ensures.methods_are c.initializer-place.ensures
    c.tables-tables.ensures.initializers_are c.in-Some.info.now c.body.result (ap option_copied c.in-Some.is)
    c.body.ensures c.in-NoCode.is)

pub returns-in-None : goal.returns-in-None
returns-in-None c =
    absurd (read-none c.args.program.now c.args.class c.requires.accepted c.requires.listed
    (option_copied c.method.result) c.tables-tables.result.now.methods c.tables-tables.result.now.initializers
    c.initializer-place.result c.method.ensures c.tables-tables.ensures.methods_are c.initializer-place.ensures
    c.tables-tables.ensures.initializers_are (ap option_copied c.in-None.is))
