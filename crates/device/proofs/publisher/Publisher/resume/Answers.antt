use Rattle.std.proofs.Common.{◌<◌, List, length, subst, ap, arith}
use Rattle.std.proofs.lemmas.Bool.{OnFalse_at, OnFalse_from, OnTrue_at, OnTrue_from}
use Rattle.group_keys.specs.declared.key_set.KeySet.{KeySet}
use Rattle.ps_config.specs.declared.parts.KeyGroupPart.{KeyGroupPart}
use Rattle.device.specs.Resuming.{IsBehind, IsBehindConfigured, MayNotResume, MayNotResumeConfigured}
use Rattle.device.specs.Sides.{configured_sets}
use Rattle.device.proofs.Places.{holds-at}
use Rattle.device.proofs.publisher.Publisher.resume.Goals as goal

pub returns-then-index-keygroups-clause-refused : goal.returns-then-index-keygroups-clause-refused
returns-then-index-keygroups-clause-refused c =
    λ d within there. absurd (omega (arith, there, c.if-index-keygroups.true, c.from-index.ensures, ap (λ (l : List KeyGroupPart). length l) c.as_slice-keygroups.ensures))

pub returns-clause-behind : goal.returns-clause-behind
returns-clause-behind c =
    let keygroup = c.args.keygroup in
    let old = c.args.self.now in
    let new = c.go_on.new.self in
    let keygroups = c.as_slice-keygroups.result.now in
    let low : c.from-index.result < length keygroups = omega (arith, c.if-index-keygroups.false) in
    OnTrue_from c.go_on.result (IsBehindConfigured keygroup c.args.now c.args.used old new) (λ yes.
    holds-at (λ (part : KeyGroupPart). IsBehind keygroup c.args.now c.args.used (configured_sets part) old new) keygroups old.config.keygroup c.from-index.result keygroup
    c.index-keygroups-index.result c.as_slice-keygroups.ensures c.from-index.ensures low c.index-keygroups-index.is
    (subst (λ (sets : List KeySet). IsBehind keygroup c.args.now c.args.used sets old new) c.ring_of-ring.ensures.keys (OnTrue_at yes c.go_on.ensures.behind)))

pub returns-clause-refused : goal.returns-clause-refused
returns-clause-refused c =
    let keygroup = c.args.keygroup in
    let old = c.args.self.now in
    let keygroups = c.as_slice-keygroups.result.now in
    let low : c.from-index.result < length keygroups = omega (arith, c.if-index-keygroups.false) in
    OnFalse_from c.go_on.result (MayNotResumeConfigured keygroup c.args.now c.args.used old) (λ no.
    holds-at (λ (part : KeyGroupPart). MayNotResume keygroup c.args.now c.args.used (configured_sets part) old) keygroups old.config.keygroup c.from-index.result keygroup
    c.index-keygroups-index.result c.as_slice-keygroups.ensures c.from-index.ensures low c.index-keygroups-index.is
    (subst (λ (sets : List KeySet). MayNotResume keygroup c.args.now c.args.used sets old) c.ring_of-ring.ensures.keys (OnFalse_at no c.go_on.ensures.refused)))
