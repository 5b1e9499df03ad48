-- It owns nothing, so several threads may read it.
use denote.Param.Send.{IsSync, part_keyless}
use Rattle.sts_records.specs.contracts.given.Given.{the_row}
use Rattle.sts_records.proofs.given.Given.TheSendSync.Send.{send}

pub sync : IsSync the_row
sync = record { shared = λ d b o κ q. part_keyless the_row send q d b o }
