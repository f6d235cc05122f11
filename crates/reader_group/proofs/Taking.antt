-- A reader is given the parts of a datagram.
use Rattle.std.proofs.Common.{◌≡◌, refl, sym, ap, ◌∙◌, arith, ℕ, ◌+◌, Bool, true, List}
use Rattle.std.specs.Prelude.{◌==◌, fold}
use Rattle.std.proofs.lemmas.Bool.Decides.{nat_tests}
use Rattle.ps_config.specs.declared.parts.ReaderPart.{ReaderPart}
use Rattle.reader_group.specs.declared.account.Account.{Account}
use Rattle.reader_group.specs.declared.member.Member.{Member}
use Rattle.reader_group.specs.declared.notice.PartOutcome.{PartOutcome}
use Rattle.reader_group.specs.declared.receipt.Receipt.{Receipt}
use Rattle.reader_group.specs.Members.{Seat, MemberValue}
use Rattle.reader_group.specs.MemberWords.{Follows, IsFed, IsMemberOf}
use Rattle.reader_group.specs.Notices.{AccountValue, account_on, findings_on, is_bad, no_account, no_findings, piece_outcome}
use Rattle.reader_group.specs.Payloads.{Piece, Chunked, Chunk, pieces}
use Rattle.reader_group.specs.Plain.{count_if, piece_case}
use Rattle.reader_group.proofs.Outcomes.{piece-bad}

-- before any part
abbrev none : Account
none = record { tally = record { matched = 0; bad = 0 }; findings = no_findings }

-- what counting one part more ensures
pub record Counts (old new : Account) (outcome : PartOutcome) : Type 0 where
  pub matched : new.tally.matched ≡ old.tally.matched + 1
  pub bad : new.tally.bad ≡ old.tally.bad + count_if (is_bad outcome)
  pub findings : new.findings ≡ findings_on outcome old.findings

-- one part more
pub more-fed : (seat : Seat) (receipt : Receipt) (value : AccountValue) (piece : Piece) (old : Member) (new : Member) (outcome : PartOutcome) (before after : Account)
    → Follows seat (piece_case seat receipt value.fed.member piece).0 (piece_outcome seat receipt value.fed.member piece) new outcome → Counts before after outcome → IsFed seat value old before
    → IsFed seat (account_on seat receipt value piece) new after
more-fed seat receipt value piece old new outcome before after follows counts h =
    let is = follows.1 in
    let bad : is_bad outcome ≡ (piece_case seat receipt value.fed.member piece).1 = ap is_bad is ∙ sym (piece-bad seat receipt value.fed.member piece) in
    record {
      member_is = follows.0;
      matched = counts.matched ∙ ap (λ (n : ℕ). n + 1) h.matched;
      accounts = record {
        bad = counts.bad ∙ ap (λ (n : ℕ). n + count_if (is_bad outcome)) h.accounts.bad ∙ ap (λ (b : Bool). value.fed.bad + count_if b) bad;
        findings = counts.findings ∙ ap (findings_on outcome) h.accounts.findings ∙ ap (λ (o : PartOutcome). findings_on o value.findings) is;
      };
    }

-- the one part
pub one-fed : (seat : Seat) (receipt : Receipt) (member : MemberValue) (piece : Piece) (old new : Member) (outcome : PartOutcome) (account : Account) → IsMemberOf seat member old
    → Follows seat (piece_case seat receipt member piece).0 (piece_outcome seat receipt member piece) new outcome
    → account.tally.matched ≡ 1 → account.tally.bad ≡ count_if (is_bad outcome) → account.findings ≡ findings_on outcome no_findings
    → IsFed seat (account_on seat receipt (no_account member) piece) new account
one-fed seat receipt member piece old new outcome account h follows matched bad findings =
    let bad_is : account.tally.bad ≡ 0 + count_if (is_bad outcome) = omega (arith, bad) in
    more-fed seat receipt (no_account member) piece old new outcome none account follows (record { matched = matched; bad = bad_is; findings = findings })
    (record { member_is = h; matched = refl; accounts = record { bad = refl; findings = refl } })

-- a chunk for the reader of this writer
pub own-chunk : (seat : Seat) (receipt : Receipt) (member : MemberValue) (reader : ReaderPart) (writer : ℕ) (bytes : List ℕ) (new : Member) (account : Account) → writer ≡ reader.writer
    → IsFed seat (account_on seat receipt (no_account member) (Chunked bytes)) new account
    → IsFed seat (fold (account_on seat receipt) (no_account member) (pieces reader (Chunk writer bytes))) new account
own-chunk seat receipt member reader writer bytes new account own h =
    let is : (writer == reader.writer) ≡ true = grind (arith, nat_tests) in rw is h
