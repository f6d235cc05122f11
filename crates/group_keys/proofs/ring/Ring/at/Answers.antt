use Rattle.std.proofs.Common.{nat_le, sym, ◌∙◌, ap, length, leb-true}
use Rattle.std.specs.Option.{option_copied}
use Rattle.group_keys.specs.KeySets.{current}
use Rattle.group_keys.proofs.Finding.{last_found_has, last_found_latest, last_found_listed, last_found_passes, some_last}
use Rattle.group_keys.proofs.ring.Ring.at.Goals as goal

pub unreachable-requires : goal.unreachable-requires
unreachable-requires c =
    some_last (λ set. set.from) c.args.now c.args.self.now.keys.items c.args.self.now.has_key c.args.self.now.first_at_zero
    (sym (ap (λ sets. current sets c.args.now) c.as_slice.ensures.value) ∙ sym c.current.ensures ∙ ap option_copied c.in-None.is)

pub returns-clause-listed : goal.returns-clause-listed
returns-clause-listed c =
    last_found_listed (λ set. nat_le set.from c.args.now) c.args.self.now.keys.items c.in-Some.set.now
    (sym (ap (λ sets. current sets c.args.now) c.as_slice.ensures.value) ∙ sym c.current.ensures ∙ ap option_copied c.in-Some.is)

pub returns-clause-come : goal.returns-clause-come
returns-clause-come c =
    leb-true c.in-Some.set.now.from c.args.now
    (last_found_passes (λ set. nat_le set.from c.args.now) c.args.self.now.keys.items c.in-Some.set.now
    (sym (ap (λ sets. current sets c.args.now) c.as_slice.ensures.value) ∙ sym c.current.ensures ∙ ap option_copied c.in-Some.is))

pub returns-clause-latest : goal.returns-clause-latest
returns-clause-latest c =
    last_found_latest (λ set. set.from) c.args.now c.args.self.now.keys.items c.in-Some.set.now
    c.args.self.now.moments_rise
    (sym (ap (λ sets. current sets c.args.now) c.as_slice.ensures.value) ∙ sym c.current.ensures ∙ ap option_copied c.in-Some.is)

pub returns-clause-fits : goal.returns-clause-fits
returns-clause-fits c =
    last_found_has (λ set. length set.encrypting.items) (λ set. nat_le set.from c.args.now) c.args.self.now.keys.items _ c.in-Some.set.now
    c.args.self.now.lengths_fit
    (sym (ap (λ sets. current sets c.args.now) c.as_slice.ensures.value) ∙ sym c.current.ensures ∙ ap option_copied c.in-Some.is)
