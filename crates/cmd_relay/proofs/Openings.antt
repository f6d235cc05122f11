-- What calls leave of a link that they open, and of two.
use Rattle.std.proofs.Common.{◌≤◌, inr, ℕ, Option, ◌∙◌, arith}
use Rattle.ua_base.specs.Journal.{LinkState}
use Rattle.ua_base.specs.Links.{Making, Opening, KeepsLink}
use Rattle.ua_base.proofs.Links.{TellsOn-more}
use Rattle.cmd_base.specs.Outside.{Wire, wire_of}
use Rattle.cmd_relay.specs.Links.{OpensBoth, OpensOne}

-- ---- one link

-- said of what is done less often, and over more answers Nothing
pub less : {done did : Type 0} (opening : Opening) (one other : ℕ) (before after : Wire) → one ≤ other → (did → done) → OpensOne opening done one before after → OpensOne opening did other before after
less {done} {did} opening one other before after most only opens = record {
  opened = λ is. opens.opened (only is);
  opens = opens.opens;
  once = record { making = opens.once.making; at_most_once = opens.once.at_most_once; once = λ is. opens.once.once (only is) };
  lasts = TellsOn-more (λ (w : Wire). w.told) (λ (w : Wire). w.patience) one other before after most opens.lasts;
  counts = opens.counts;
}

-- it was opened, and each call behind that kept it
pub then-kept : {L : Type 0} (told : L → Option LinkState) (patience : L → ℕ) (opened_with : L → Option Opening) (faults : L → ℕ) (made : L → Making) (openings : L → ℕ) {done did : Type 0} (opening : Opening) (nothings : ℕ)
    (old opened new : L) → OpensOne opening done 0 (wire_of told patience faults opened_with made openings old) (wire_of told patience faults opened_with made openings opened) → done
    → KeepsLink told patience opened_with faults made openings nothings opened new
    → OpensOne opening did nothings (wire_of told patience faults opened_with made openings old) (wire_of told patience faults opened_with made openings new)
then-kept told patience opened_with faults made openings {done} {did} opening nothings old opened new opens is kept = record {
  opened = λ did. kept.opening ∙ opens.opened is;
  opens = λ differs. kept.opening ∙ opens.opened is;
  once = record { making = kept.making ∙ opens.once.making; at_most_once = inr (kept.opened ∙ opens.once.once is); once = λ did. kept.opened ∙ opens.once.once is };
  lasts = record {
    tells = λ enough told. kept.lasts.tells (omega (arith, enough, opens.lasts.left)) (opens.lasts.tells (omega (arith, enough)) told);
    left = omega (arith, opens.lasts.left, kept.lasts.left);
  };
  counts = omega (arith, opens.counts, kept.counted);
}

-- ---- both

pub both-less : {done did unopened refused : Type 0} (first second : Opening) (one other : ℕ) (lab lab_after wire wire_after : Wire) → one ≤ other → (did → done) → (refused → unopened)
    → OpensBoth first second done unopened one lab lab_after wire wire_after → OpensBoth first second did refused other lab lab_after wire wire_after
both-less {done} {did} {unopened} {refused} first second one other lab lab_after wire wire_after most only fails opens = record {
  lab_opens = less first one other lab lab_after most only opens.lab_opens;
  wire_opens = less second one other wire wire_after most only opens.wire_opens;
  unopened = λ is. opens.unopened (fails is);
}
