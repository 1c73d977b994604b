-- The three demands about the C face, proved.
use Rattle.demands.specs.Demands.{Demands}
use Rattle.demands.proofs.First.{demand_1}
use Rattle.demands.proofs.Second.{demand_2}
use Rattle.demands.proofs.Third.{demand_3}

pub demands : Demands
demands = record { demand_1 = demand_1; demand_2 = demand_2; demand_3 = demand_3 }
