-- The last page, proved.
use Rattle.demands.proofs.Demands.{demands}
use Rattle.firmware.specs.Firmware.{Firmware}
use Rattle.firmware.proofs.Contracts.{code, contracts}

pub firmware : Firmware
firmware = record { code = code; contracts = contracts; demands = demands }
