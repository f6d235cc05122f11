-- What a session does to the link behind a tap, from what it does to the tap, which tells an opening only where it came by way of it.
use Rattle.std.proofs.Common.{◌≡◌, ℕ, Bool, true, false, Option, Some, None, IsSome, refl, sym, ap, ◌∙◌, subst}
use Rattle.std.specs.Prelude.{◌≢◌}
use Rattle.std.proofs.lemmas.Bool.{false≢true}
use Rattle.ua_base.specs.Journal.{LinkState}
use Rattle.ua_base.specs.Links.{Making, Opening}
use Rattle.json_tap.specs.Keeping.{opened_if}
use Rattle.script_player.specs.Openings.{PerformsOver}
use Rattle.script_player.proofs.Openings.{performs-behind}

-- what a tap was opened with its link was
shown : (b : Bool) (found : Option Opening) (opening : Opening) → opened_if b found ≡ Some opening → found ≡ Some opening
shown true found opening is = is
shown false found opening is = absurd (let no : None ≡ Some opening = is in cc)

module _ {L T : Type 0} (told : L → Option LinkState) (patience : L → ℕ) (opened_with : L → Option Opening) (faults : L → ℕ) (made : L → Making) (openings : L → ℕ) (opening : Opening)
    (behind : T → L) (is_open : T → Bool) (performed unopened : Type 0) (old new : T) (first last : L) (from : behind old ≡ first) (to : last ≡ behind new) (closed : is_open old ≡ false)
    (opened : is_open new ≡ true → IsSome (opened_with last)) (left : is_open new ≡ false → opened_with last ≡ opened_with first)
    (over : PerformsOver (λ t. told (behind t)) (λ t. patience (behind t)) (λ t. opened_if (is_open t) (opened_with (behind t))) (λ t. faults (behind t)) (λ t. made (behind t)) (λ t. openings (behind t)) opening performed unopened old new) where
  -- the tap was opened with nothing before, and one that is open now isn't as it was
  nothing : opened_if (is_open old) (opened_with (behind old)) ≡ None
  nothing = ap (λ (b : Bool). opened_if b (opened_with (behind old))) closed

  differs : is_open new ≡ true → opened_if (is_open new) (opened_with (behind new)) ≡ opened_if (is_open old) (opened_with (behind old)) → ⊥
  differs is same =
      let here : opened_with last ≡ None = ap opened_with to ∙ sym (ap (λ (b : Bool). opened_if b (opened_with (behind new))) is) ∙ same ∙ nothing in
      false≢true (subst (λ (o : Option Opening). IsSome o) here (opened is))

  stays : is_open new ≡ false → opened_with (behind new) ≡ opened_with (behind old)
  stays is = ap opened_with (sym to) ∙ left is ∙ ap opened_with (sym from)

  opens : (b : Bool) → is_open new ≡ b → opened_with (behind new) ≢ opened_with (behind old) → opened_with (behind new) ≡ Some opening
  opens false is other = absurd (other (stays is))
  opens true is other = shown (is_open new) (opened_with (behind new)) opening (over.opens (differs is))

  unused : (b : Bool) → is_open new ≡ b → unopened → opened_with (behind new) ≡ opened_with (behind old)
  unused false is failed = stays is
  unused true is failed = absurd (differs is (over.unused failed).1)

  pub performs-tapped : PerformsOver told patience opened_with faults made openings opening performed unopened first last
  performs-tapped =
      performs-behind told patience opened_with faults made openings opening behind performed unopened old new first last from to (record {
        opened = λ is. shown (is_open new) (opened_with (behind new)) opening (over.opened is);
        opens = opens (is_open new) refl;
        once = over.once;
        failed = over.failed;
        unused = λ is. ((over.unused is).0, unused (is_open new) refl is, (over.unused is).2);
        counted = over.counted;
        lasts = over.lasts;
      })
