-- Sends of a group, one after another.
use Rattle.std.proofs.Common.{◌≡◌, refl, sym, ap, ◌∙◌, subst, arith, ℕ, suc, ◌+◌, ◌<◌, ◌≢◌, ◌⊎◌, inl, inr, Bool, true, false, cond, List, [], ◌∷◌, ◌++◌, length, length-append, take, Option, get_or, append_assoc}
use Rattle.std.specs.Prelude.{zip, count_by, not, ◌==◌, ◌&&◌, if◌then◌else◌}
use Rattle.std.proofs.Math.Seq.{take-suc}
use Rattle.std.proofs.lemmas.Bool.Decides.{eqb_tells}
use Rattle.std.proofs.lemmas.List.{append-nil, map-append}
use Rattle.std.proofs.lemmas.List.Sums.{fold-append}
use Rattle.ua_base.specs.Cause.{counted_if}
use Rattle.ua_base.specs.Journal.{LinkState, Entry, Sent, SendFailed, Tells}
use Rattle.ua_base.proofs.Told.{Tells-refl, Tells-then}
use Rattle.session_model.specs.Sends.{Send, sends_by, send_entry, send_entries, is_done_by, failing_after}
use Rattle.session_model.specs.Answers.{counted}
use Rattle.session_model.specs.Closing.{is_sent, is_send_failed}
use Rattle.session_model.proofs.Sending.{zip-append, entries-append, count-append, count-cons}
use Rattle.session_parts.specs.declared.publisher.Publisher.{Publisher}
use Rattle.session_parts.specs.declared.sends.GroupSends.{GroupSends}
use Rattle.session_parts.specs.declared.sends.LinkSends.{LinkSends}
use Rattle.session_parts.specs.Standing.{AreSendsIn}
use Rattle.session_parts.specs.Ticking.{HasNoted, HaveBeenSent, Noted}

counted-more : (b : Bool) (n : ℕ) → counted_if b (counted n) ≡ counted (n + cond b 1 0)
counted-more true n = omega arith
counted-more false n = omega arith

-- ---- none

pub none-been : (publisher : Publisher) (told : Option LinkState) → HaveBeenSent [] [] publisher publisher told told
none-been publisher told = record {
  each = refl;
  groups = λ g low d. record { done = λ n is. is ∙ ap counted (omega arith); failing = refl };
  link = λ entries are. subst (λ (l : List Entry). AreSendsIn l publisher.link) (sym (append-nil entries)) are;
  tells = Tells-refl told (λ x y. y.journal ≡ x.journal ++ []) (λ w. sym (append-nil w.journal));
}

-- ---- one

one-noted : (g h : ℕ) (datagram : List ℕ) (b : Bool) (old new : Publisher) (d : GroupSends) → HasNoted g b old new
    → Noted (zip (sends_by g (datagram ∷ [])) (b ∷ [])) h (get_or old.sends.items h d) (get_or new.sends.items h d)
one-noted g h datagram b old new d noted = by_case (eqb_tells g h)
  where
    x : Send × Bool
    x = (record { group = g; datagram = datagram }, b)

    counts : count_by (is_done_by h) (x ∷ []) ≡ cond ((g == h) && b) 1 0 + 0
    counts = count-cons (is_done_by h) x []

    by_case : ((g == h) ≡ true) × (g ≡ h) ⊎ ((g == h) ≡ false) × (g ≢ h)
        → Noted (zip (sends_by g (datagram ∷ [])) (b ∷ [])) h (get_or old.sends.items h d) (get_or new.sends.items h d)
    by_case (inl same) = record {
      done = λ n is.
          let own : (get_or new.sends.items h d).done ≡ counted_if b (get_or old.sends.items h d).done
          = subst (λ (k : ℕ). (get_or new.sends.items k d).done ≡ counted_if b (get_or old.sends.items k d).done) same.1 (noted.done d) in
          own ∙ ap (counted_if b) is ∙ counted-more b n ∙ ap counted (omega (arith, counts, ap {B = ℕ} (λ (q : Bool). cond (q && b) 1 0) same.0));
      failing =
          let own : (get_or new.sends.items h d).is_failing ≡ not b = subst (λ (k : ℕ). (get_or new.sends.items k d).is_failing ≡ not b) same.1 (noted.failing d) in
          own ∙ sym (ap (λ (q : Bool). if q then not b else (get_or old.sends.items h d).is_failing) same.0);
    }
    by_case (inr other) =
        let stays : get_or new.sends.items h d ≡ get_or old.sends.items h d = noted.others h (λ same. other.1 (sym same)) d in record {
          done = λ n is.
              ap (λ (s : GroupSends). s.done) stays ∙ is ∙ ap counted (omega (arith, counts, ap {B = ℕ} (λ (q : Bool). cond (q && b) 1 0) other.0));
          failing = ap (λ (s : GroupSends). s.is_failing) stays ∙ sym (ap (λ (q : Bool). if q then not b else (get_or old.sends.items h d).is_failing) other.0);
        }

one-link : (g : ℕ) (datagram : List ℕ) (b : Bool) (old new : LinkSends) (entries : List Entry) → new.done ≡ counted_if b old.done → new.failed ≡ counted_if (not b) old.failed
    → AreSendsIn entries old → AreSendsIn (entries ++ send_entries (sends_by g (datagram ∷ [])) (b ∷ [])) new
one-link g datagram true old new entries done failed are = record {
  done = done ∙ ap (counted_if true) are.done ∙ counted-more true (count_by is_sent entries)
      ∙ ap counted (omega (arith, count-append is_sent entries (Sent datagram ∷ []), count-cons is_sent (Sent datagram) []));
  failed = failed ∙ are.failed
      ∙ ap counted (omega (arith, count-append is_send_failed entries (Sent datagram ∷ []), count-cons is_send_failed (Sent datagram) []));
}
one-link g datagram false old new entries done failed are = record {
  done = done ∙ are.done
      ∙ ap counted (omega (arith, count-append is_sent entries (SendFailed ∷ []), count-cons is_sent SendFailed []));
  failed = failed ∙ ap (counted_if true) are.failed ∙ counted-more true (count_by is_send_failed entries)
      ∙ ap counted (omega (arith, count-append is_send_failed entries (SendFailed ∷ []), count-cons is_send_failed SendFailed []));
}

pub one-been : (g : ℕ) (datagram : List ℕ) (b : Bool) (old new : Publisher) (told after : Option LinkState) → HasNoted g b old new
    → Tells told after (λ x y. y.journal ≡ x.journal ++ send_entry (record { group = g; datagram = datagram }, b) ∷ [])
    → HaveBeenSent (sends_by g (datagram ∷ [])) (b ∷ []) old new told after
one-been g datagram b old new told after noted tells = record {
  each = refl;
  groups = λ h low d. one-noted g h datagram b old new d noted;
  link = λ entries are. one-link g datagram b old.link new.link entries noted.link_done noted.link_failed are;
  tells = tells;
}

-- ---- one behind others

noted-then : (xs ys : List (Send × Bool)) (g : ℕ) (a b c : GroupSends) → Noted xs g a b → Noted ys g b c → Noted (xs ++ ys) g a c
noted-then xs ys g a b c first next = record {
  done = λ n is.
      next.done (n + count_by (is_done_by g) xs) (first.done n is) ∙ ap counted (omega (arith, count-append (is_done_by g) xs ys));
  failing = next.failing ∙ ap (λ (f : Bool). failing_after g f ys) first.failing
      ∙ sym (fold-append (λ (failed : Bool) (send : Send × Bool). if send.0.group == g then not send.1 else failed) a.is_failing xs ys);
}

been-then : (xs ys : List Send) (us vs : List Bool) (a b c : Publisher) (told mid after : Option LinkState) → length b.sends.items ≡ length a.sends.items
    → HaveBeenSent xs us a b told mid → HaveBeenSent ys vs b c mid after → HaveBeenSent (xs ++ ys) (us ++ vs) a c told after
been-then xs ys us vs a b c told mid after count first next = record {
  each = length-append us vs ∙ omega (arith, first.each, next.each, length-append xs ys);
  groups = λ g low d.
      subst (λ (l : List (Send × Bool)). Noted l g (get_or a.sends.items g d) (get_or c.sends.items g d)) (sym (zip-append xs ys us vs first.each))
      (noted-then (zip xs us) (zip ys vs) g (get_or a.sends.items g d) (get_or b.sends.items g d) (get_or c.sends.items g d) (first.groups g low d)
      (next.groups g (subst (λ (n : ℕ). g < n) (sym count) low) d));
  link = λ entries are.
      subst (λ (l : List Entry). AreSendsIn l c.link) (all entries) (next.link (entries ++ send_entries xs us) (first.link entries are));
  tells = Tells-then told mid after (λ x y. y.journal ≡ x.journal ++ send_entries xs us) (λ x y. y.journal ≡ x.journal ++ send_entries ys vs)
      (λ x y. y.journal ≡ x.journal ++ send_entries (xs ++ ys) (us ++ vs))
      (λ x y z p q. q ∙ ap (λ l. l ++ send_entries ys vs) p ∙ all x.journal) first.tells next.tells;
}
  where
    all : (entries : List Entry) → (entries ++ send_entries xs us) ++ send_entries ys vs ≡ entries ++ send_entries (xs ++ ys) (us ++ vs)
    all entries = append_assoc entries (send_entries xs us) (send_entries ys vs) ∙ ap (λ l. entries ++ l) (sym (entries-append xs ys us vs first.each))

-- the next datagram of a turn
pub next-been : (g i : ℕ) (datagrams : List (List ℕ)) (done : List Bool) (b : Bool) (one two three : Publisher) (told mid after : Option LinkState) → i < length datagrams
    → length two.sends.items ≡ length one.sends.items
    → HaveBeenSent (sends_by g (take i datagrams)) done one two told mid
    → HaveBeenSent (sends_by g (get_or datagrams i [] ∷ [])) (b ∷ []) two three mid after
    → HaveBeenSent (sends_by g (take (i + 1) datagrams)) (done ++ b ∷ []) one three told after
next-been g i datagrams done b one two three told mid after low count first next =
    subst (λ (l : List Send). HaveBeenSent l (done ++ b ∷ []) one three told after) (sym more)
    (been-then (sends_by g (take i datagrams)) (sends_by g (get_or datagrams i [] ∷ [])) done (b ∷ []) one two three told mid after count first next)
  where
    more : sends_by g (take (i + 1) datagrams) ≡ sends_by g (take i datagrams) ++ sends_by g (get_or datagrams i [] ∷ [])
    more =
        let on : i + 1 ≡ suc i = omega arith in
        ap (λ (n : ℕ). sends_by g (take n datagrams)) on
        ∙ ap (sends_by g) (take-suc datagrams i [] low)
        ∙ map-append (λ datagram. record { group = g; datagram = datagram }) (take i datagrams) (get_or datagrams i [] ∷ [])
