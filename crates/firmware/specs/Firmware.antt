-- The last page: the code of each `khl_*` meets its contract, the contracts say what `leaves` does, and of `leaves` the
-- three demands hold. Proved as `firmware` in proofs/Firmware.antt.
use Rattle.demands.specs.Demands.{Demands}
use Rattle.firmware.specs.Promises.{Contracts, Code}

pub record Firmware : Type 2 where
  pub code : Code
  pub contracts : Contracts
  pub demands : Demands
