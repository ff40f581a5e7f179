use Rattle.std.specs.Prelude.{◌≡◌, ◌<◌, ◌≤◌, ℕ, IfSome, is_some, length, true}
use Rattle.command_line.specs.declared.options.Command.{Command}
use Rattle.command_line.specs.declared.options.Command.TheVariants.{Run, Debug, Explore, Assemble, Disassemble, Replay, Upgrade}
use Rattle.command_line.specs.declared.options.Command.TheVariants.{Explain}
use Rattle.command_line.specs.declared.options.ExploreOptions.{ExploreOptions}
use Rattle.model.specs.Limits.{LimitsFit}

-- a command has the file names that it needs
abbrev pub HasFiles : Command → Type 0
HasFiles (Run options) = 0 < length options.files.items
HasFiles (Debug options) = 0 < length options.files.items
HasFiles (Explore options) = 0 < length options.files.items
HasFiles (Assemble options) = Unit {0}
HasFiles (Disassemble file) = Unit {0}
HasFiles (Replay options) = 0 < length options.files.items
HasFiles (Upgrade options) = Unit {0}
HasFiles (Explain code) = Unit {0}

-- an exploration is divided into so many parts
abbrev pub IsPartCount : ℕ → Type 0
IsPartCount n = (1 ≤ n) × (n ≤ 65536)

-- so many threads explore
abbrev pub IsWorkerCount : ℕ → Type 0
IsWorkerCount n = (1 ≤ n) × (n ≤ 64)

-- one thread alone divides an exploration
abbrev pub DividesAlone : ExploreOptions → Type 0
DividesAlone options = is_some options.split ≡ true → options.workers ≡ 1

-- the numbers that no world tests lie in their ranges: how many turns the collector makes after one of a thread, how
-- many carriers there are, how far an exploration goes, into how many parts it is divided, and how many threads explore
abbrev pub InRange : Command → Type 0
InRange (Run options) = (options.gc ≤ 1000) × (1 ≤ options.carriers) × (options.carriers ≤ 8)
InRange (Debug options) = Unit {0}
InRange (Explore options) = (1 ≤ options.states) × LimitsFit options.limits.steps options.limits.output
    × IfSome options.split IsPartCount × IsWorkerCount options.workers × DividesAlone options
InRange (Assemble options) = Unit {0}
InRange (Disassemble file) = Unit {0}
InRange (Replay options) = Unit {0}
InRange (Upgrade options) = Unit {0}
InRange (Explain code) = Unit {0}
