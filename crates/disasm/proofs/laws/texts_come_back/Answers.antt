use Rattle.disasm.proofs.RoundTrip.{round_trip}
use Rattle.disasm.proofs.laws.texts_come_back.Goals as goal

pub returns : goal.returns
returns c = round_trip
