use Rattle.model.specs.Callees as callees
use Rattle.model.specs.Callees.Callee.{Own, Coded, NoCode}
use Rattle.ideal_run.specs.declared.callees.Callee.{Callee}
use Rattle.ideal_run.specs.declared.callees.Callee.TheVariants as code

-- what a method has to run
abbrev pub callee_in : Callee → callees.Callee
callee_in (code.Own builtin) = Own builtin
callee_in (code.Coded method body place) = Coded (record { method = method.now; code = body.now; place = place })
callee_in code.NoCode = NoCode
