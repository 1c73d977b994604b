-- The iterations by the halves are the definition's.
use Rattle.std.proofs.Common.{rules, ◌≡◌, ◌/◌, ◌%◌, ◌^◌}
use Rattle.std.specs.List.{fold}
use Rattle.dea.specs.Dea.{cipher}
use Rattle.cipher.proofs.Walks.{round, iterated}
use Rattle.cipher.proofs.cipher.Goals as goal

pub returns : goal.returns
unfolding cipher
returns g c =
    let run = c.fold-l.ensures.runs in
    let b = c.ip-b.result in
    let folded : c.fold-l.result ≡ fold round (b / 2 ^ 32, b % 2 ^ 32) run.0.items = run.3 round (λ x y r f' k. search rules) in
    (run.0, run.1, run.2, cc (iterated run.0.items (b / 2 ^ 32, b % 2 ^ 32)))
