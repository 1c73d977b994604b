-- The contracts of `khl_*`, as the prover reads them: whatever end of a call one of them allows, it is what Face.antt
-- says of its beginning. A slice that is lent to read only is at the end what it was.
use Rattle.std.specs.Prelude.{◌≡◌, List, [], ℕ}
use borrow.Fn.Kinds.{ParamKind, ResultKind, In, Out, Dens, res_t, ended_of}
use contract.Lifetimes.{Lfts}
use denote.Triple.Clauses.{AtExit}
use Rattle.octets.specs.Text.{Text}
use Rattle.host.proofs.khl_receive.Kinds as of_receive
use Rattle.host.proofs.khl_receive.Reads as khl_receive
use Rattle.host.proofs.khl_receive.Statement as code_of_receive
use Rattle.host.proofs.khl_build_ksm.Kinds as of_build_ksm
use Rattle.host.proofs.khl_build_ksm.Reads as khl_build_ksm
use Rattle.host.proofs.khl_build_ksm.Statement as code_of_build_ksm
use Rattle.host.proofs.khl_build_rsi.Kinds as of_build_rsi
use Rattle.host.proofs.khl_build_rsi.Reads as khl_build_rsi
use Rattle.host.proofs.khl_build_rsi.Statement as code_of_build_rsi
use Rattle.host.proofs.khl_ask.Kinds as of_ask
use Rattle.host.proofs.khl_ask.Reads as khl_ask
use Rattle.host.proofs.khl_ask.Statement as code_of_ask
use Rattle.host.proofs.khl_give_up.Kinds as of_give_up
use Rattle.host.proofs.khl_give_up.Reads as khl_give_up
use Rattle.host.proofs.khl_give_up.Statement as code_of_give_up
use Rattle.host.proofs.khl_start.Kinds as of_start
use Rattle.host.proofs.khl_start.Reads as khl_start
use Rattle.host.proofs.khl_start.Statement as code_of_start
use Rattle.host.proofs.khl_load.Kinds as of_load
use Rattle.host.proofs.khl_load.Reads as khl_load
use Rattle.host.proofs.khl_load.Statement as code_of_load
use Rattle.host.proofs.khl_remove.Kinds as of_remove
use Rattle.host.proofs.khl_remove.Reads as khl_remove
use Rattle.host.proofs.khl_remove.Statement as code_of_remove
use Rattle.demands.specs.Face.{Left, receive, build_ksm, build_rsi, ask, give_up, load, remove, leaves}
use Rattle.demands.specs.Face.{start_leaves}

-- a contract asks for nothing, and wherever it holds, what is seen of a call's end is what is said of its beginning
abbrev pub Says : (n : ℕ) (ps : List (ParamKind n)) (r : ResultKind n) → In n ps → Out n ps r
    → ((κs : Lfts n) → Dens κs ps → (res_t r κs).Denot → AtExit (ended_of n ps r) κs → Left)
    → ((κs : Lfts n) → Dens κs ps → Left) → Type 0
Says n ps r asked contract seen said =
    (κs : Lfts n) (lent : Dens κs ps)
    → asked κs lent × ((answer : (res_t r κs).Denot) (end : AtExit (ended_of n ps r) κs)
    → contract κs lent answer end → seen κs lent answer end ≡ said κs lent)

pub record Contracts : Type 0 where
  -- image, text, reply, report
  pub receives : Says 4 of_receive.ps of_receive.r khl_receive.Pre khl_receive.Post
      (λ κs lent answer end. record {
        answer = answer;
        image = end.0.now;
        buffer = end.1.1.0.now;
        report = end.1.1.1.0.now;
      })
      (λ κs lent. leaves lent.0.now lent.1.1.0.now (receive lent.1.0.now))
  -- image, partner, request, reply, report
  pub builds_a_ksm : Says 5 of_build_ksm.ps of_build_ksm.r khl_build_ksm.Pre khl_build_ksm.Post
      (λ κs lent answer end. record {
        answer = answer;
        image = end.0.now;
        buffer = end.1.1.1.0.now;
        report = end.1.1.1.1.0.now;
      })
      (λ κs lent. leaves lent.0.now lent.1.1.1.0.now (build_ksm lent.1.0.now lent.1.1.0.now))
  -- image, partner, service, reply, report
  pub builds_an_rsi : Says 5 of_build_rsi.ps of_build_rsi.r khl_build_rsi.Pre khl_build_rsi.Post
      (λ κs lent answer end. record {
        answer = answer;
        image = lent.0.now;
        buffer = end.1.1.1.0.now;
        report = end.1.1.1.1.0.now;
      })
      (λ κs lent. leaves lent.0.now lent.1.1.1.0.now (build_rsi lent.1.0.now lent.1.1.0.now))
  -- image, partner, reply, report
  pub asks : Says 4 of_ask.ps of_ask.r khl_ask.Pre khl_ask.Post
      (λ κs lent answer end. record {
        answer = answer;
        image = lent.0.now;
        buffer = end.1.1.0.now;
        report = end.1.1.1.0.now;
      })
      (λ κs lent. leaves lent.0.now lent.1.1.0.now (ask lent.1.0.now))
  -- image, partner, report; whatever other buffer there is
  pub gives_up : (buffer : Text) → Says 3 of_give_up.ps of_give_up.r khl_give_up.Pre khl_give_up.Post
      (λ κs lent answer end. record {
        answer = answer;
        image = end.0.now;
        buffer = buffer;
        report = end.1.1.0.now;
      })
      (λ κs lent. leaves lent.0.now buffer (give_up lent.1.0.now))
  -- own, out, report
  pub starts : Says 3 of_start.ps of_start.r khl_start.Pre khl_start.Post
      (λ κs lent answer end. record {
        answer = answer;
        image = [];
        buffer = end.1.0.now;
        report = end.1.1.0.now;
      })
      (λ κs lent. start_leaves lent.0.now lent.1.0.now)
  -- image, partner, name, key, out, report
  pub loads : Says 6 of_load.ps of_load.r khl_load.Pre khl_load.Post
      (λ κs lent answer end. record {
        answer = answer;
        image = lent.0.now;
        buffer = end.1.1.1.1.0.now;
        report = end.1.1.1.1.1.0.now;
      })
      (λ κs lent. leaves lent.0.now lent.1.1.1.1.0.now
      (load lent.1.0.now lent.1.1.0.now lent.1.1.1.0.now))
  -- image, partner, out, report
  pub removes : Says 4 of_remove.ps of_remove.r khl_remove.Pre khl_remove.Post
      (λ κs lent answer end. record {
        answer = answer;
        image = lent.0.now;
        buffer = end.1.1.0.now;
        report = end.1.1.1.0.now;
      })
      (λ κs lent. leaves lent.0.now lent.1.1.0.now (remove lent.1.0.now))

-- the code of each meets its contract: it runs safely to its end, whatever it is lent
pub record Code : Type 2 where
  pub receives : {M : Type 1} → code_of_receive.statement M
  pub builds_a_ksm : {M : Type 1} → code_of_build_ksm.statement M
  pub builds_an_rsi : {M : Type 1} → code_of_build_rsi.statement M
  pub asks : {M : Type 1} → code_of_ask.statement M
  pub gives_up : {M : Type 1} → code_of_give_up.statement M
  pub starts : {M : Type 1} → code_of_start.statement M
  pub loads : {M : Type 1} → code_of_load.statement M
  pub removes : {M : Type 1} → code_of_remove.statement M
