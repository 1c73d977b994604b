-- The reading that the arguments of each writer stand for (document 01, "Text of a message", "Keys and MACs").
use Rattle.std.specs.Prelude.{ℕ, Option, None, option_map}
use Rattle.octets.specs.Text.{Text}
use Rattle.csm.specs.Message.{Reading, Body, rsi, ksm, rsm, esm}
use Rattle.csm.specs.Covered.{covered_part}
use Rattle.keying.specs.Mac.{mac}
use Rattle.writer.specs.Contents.{kd_of, iv_of}
use Rattle.messages.specs.declared.Counts.{Counts}
use Rattle.messages.specs.declared.Ksm.{Ksm}

-- a body to a receiver, from an originator
abbrev pub addressed : Text → Text → Body → Reading
addressed rcv org body = record { rcv = rcv; org = org; body = body }

-- a reading that lacks its MAC, with the MAC under the key over the part that it covers
abbrev pub sealed : ℕ → (ℕ → Reading) → Reading
sealed key unsealed = unsealed (mac key (covered_part (unsealed 0)))

-- RSI: the service wanted, by its place among the twelve contents; no EDC
unfoldable pub rsi_reading : Text → Text → ℕ → Reading
rsi_reading rcv org service = addressed rcv org (rsi (record { svr = service; edc = None }))

-- RSM: the MAC alone
abbrev pub unsealed_rsm : Text → Text → ℕ → Reading
unsealed_rsm rcv org m = addressed rcv org (rsm (record { mac = m }))

unfoldable pub rsm_reading : Text → Text → ℕ → Reading
rsm_reading rcv org key = sealed key (unsealed_rsm rcv org)

-- CTP and CTR, both or neither
abbrev pub ctp_of : Option Counts → Option ℕ
ctp_of counts = option_map (λ (c : Counts). c.ctp) counts

abbrev pub ctr_of : Option Counts → Option ℕ
ctr_of counts = option_map (λ (c : Counts). c.ctr) counts

-- ESM: the counts and the letters, A the lowest bit; no EDC
unfoldable pub esm_reading : Text → Text → ℕ → Option Counts → Reading
esm_reading rcv org letters counts =
    addressed rcv org (esm (record { ctp = ctp_of counts; ctr = ctr_of counts; erf = letters; edc = None }))

-- KSM: NOS or none, one KD or two, IV, EDK, CTP, MAC
abbrev pub unsealed_ksm : Text → Text → Ksm → ℕ → Reading
unsealed_ksm rcv org k m = addressed rcv org (ksm (record {
  nos = k.nos;
  kd = kd_of k.first;
  second = option_map kd_of k.second;
  iv = option_map iv_of k.vector;
  edk = k.edk;
  ctp = k.ctp;
  mac = m;
}))

unfoldable pub ksm_reading : Text → Text → Ksm → ℕ → Reading
ksm_reading rcv org k key = sealed key (unsealed_ksm rcv org k)
