-- Calls in a row over a link.
use Rattle.std.proofs.Common.{◌≤◌, ◌+◌, ℕ, Option, IsSome, refl, sym, ◌∙◌, subst, arith}
use Rattle.ua_base.specs.Journal.{LinkState}
use Rattle.ua_base.specs.Links.{Making, Opening, TellsOn, KeepsLink}

pub TellsOn-refl : {L : Type 0} (told : L → Option LinkState) (patience : L → ℕ) (link : L) → TellsOn told patience 0 link link
TellsOn-refl told patience link = record { tells = λ enough is. is; left = omega arith }

pub TellsOn-then : {L : Type 0} (told : L → Option LinkState) (patience : L → ℕ) (one other : ℕ) (a b c : L) → TellsOn told patience one a b → TellsOn told patience other b c → TellsOn told patience (one + other) a c
TellsOn-then told patience one other a b c first next = record {
  tells = λ enough is. next.tells (omega (arith, enough, first.left)) (first.tells (omega (arith, enough)) is);
  left = omega (arith, first.left, next.left);
}

-- over fewer answers Nothing a link tells on as well as over more
pub TellsOn-more : {L : Type 0} (told : L → Option LinkState) (patience : L → ℕ) (one other : ℕ) (a b : L) → one ≤ other → TellsOn told patience one a b → TellsOn told patience other a b
TellsOn-more told patience one other a b most tells = record {
  tells = λ enough is. tells.tells (omega (arith, enough, most)) is;
  left = omega (arith, tells.left, most);
}

pub KeepsLink-refl : {L : Type 0} (told : L → Option LinkState) (patience : L → ℕ) (opened_with : L → Option Opening) (faults : L → ℕ) (made : L → Making) (openings : L → ℕ) (link : L) → KeepsLink told patience opened_with faults made openings 0 link link
KeepsLink-refl told patience opened_with faults made openings link = record { lasts = TellsOn-refl told patience link; opening = refl; counted = omega arith; making = refl; opened = refl }

pub KeepsLink-then : {L : Type 0} (told : L → Option LinkState) (patience : L → ℕ) (opened_with : L → Option Opening) (faults : L → ℕ) (made : L → Making) (openings : L → ℕ) (one other : ℕ) (a b c : L) → KeepsLink told patience opened_with faults made openings one a b → KeepsLink told patience opened_with faults made openings other b c → KeepsLink told patience opened_with faults made openings (one + other) a c
KeepsLink-then told patience opened_with faults made openings one other a b c first next = record {
  lasts = TellsOn-then told patience one other a b c first.lasts next.lasts;
  opening = next.opening ∙ first.opening;
  counted = omega (arith, first.counted, next.counted);
  making = next.making ∙ first.making;
  opened = next.opened ∙ first.opened;
}

pub KeepsLink-more : {L : Type 0} (told : L → Option LinkState) (patience : L → ℕ) (opened_with : L → Option Opening) (faults : L → ℕ) (made : L → Making) (openings : L → ℕ) (one other : ℕ) (a b : L) → one ≤ other → KeepsLink told patience opened_with faults made openings one a b → KeepsLink told patience opened_with faults made openings other a b
KeepsLink-more told patience opened_with faults made openings one other a b most kept = record {
  lasts = TellsOn-more told patience one other a b most kept.lasts;
  opening = kept.opening;
  counted = kept.counted;
  making = kept.making;
  opened = kept.opened;
}

-- an open link is open after a call that keeps it
pub stays_open : {L : Type 0} (told : L → Option LinkState) (patience : L → ℕ) (opened_with : L → Option Opening) (faults : L → ℕ) (made : L → Making) (openings : L → ℕ) (nothings : ℕ) (a b : L) → KeepsLink told patience opened_with faults made openings nothings a b → IsSome (opened_with a) → IsSome (opened_with b)
stays_open told patience opened_with faults made openings nothings a b kept was = subst (λ (o : Option Opening). IsSome o) (sym kept.opening) was
