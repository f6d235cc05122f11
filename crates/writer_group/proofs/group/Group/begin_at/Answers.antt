use Rattle.std.proofs.Common.{◌≡◌, ℕ, List, get_or, refl, set, subst, sym, ap, ◌∙◌, arith, All}
use Rattle.std.specs.Vec.{with_item}
use Rattle.std.proofs.lemmas.List.{get_or_default}
use Rattle.std.proofs.lemmas.List.Elements.{All-set}
use Rattle.dataset_writer.specs.declared.writer.Writer.{Writer}
use Rattle.dataset_writer.specs.Standing.{logged_by}
use Rattle.writer_group.specs.declared.group.Group.{Group}
use Rattle.writer_group.proofs.BegunLaws.{IsBegun, goes-begun, group-begun, keeps-begun, made-begun}
use Rattle.writer_group.proofs.group.Group.begin_at.Goals as goal
use Rattle.writer_group.proofs.group.Group.begin_at.Goals.{After-begin_at}

abbrev after : After-begin_at → Group
after c = record c.args.self.now { writers = with_item c.args.self.now.writers c.from.result c.begin_at.new.self }

begun : (c : After-begin_at) → IsBegun c.args.index c.args.first_number c.args.self.now (after c) c.index_mut.result.now c.begin_at.new.self
begun c =
    let items = c.args.self.now.writers.items in
    let writer = c.index_mut.result.now in
    record {
      within = omega (arith, c.requires, c.args.self.now.writers.ok.0);
      old_is = λ d.
          get_or_default items c.args.index d writer (omega (arith, c.requires, c.args.self.now.writers.ok.0)) ∙ ap (λ (n : ℕ). get_or items n writer) (sym c.from.ensures) ∙ sym c.index_mut.ensures.value;
      new_is = ap (λ (n : ℕ). set items n c.begin_at.new.self) c.from.ensures;
      made = refl;
      moment = refl;
      stands = c.begin_at.ensures.stands;
      holds = c.begin_at.ensures.holds;
      left = c.begin_at.ensures.left;
    }

pub returns-clause-made : goal.returns-clause-made
returns-clause-made c = λ config g part made. made-begun config g c.args.index c.args.first_number part c.args.self.now (after ((goal.at.returns-clause-made c).After-begin_at)) refl refl refl refl refl made

pub returns-clause-stands : goal.returns-clause-stands
returns-clause-stands c = λ metas others part past same unturned stood.
    let r = (goal.at.returns-clause-stands c).After-begin_at in
    group-begun metas others part past c.args.index c.args.first_number c.args.self.now (after r) c.index_mut.result.now c.begin_at.new.self (begun r) same unturned stood

pub returns-clause-goes_on : goal.returns-clause-goes_on
returns-clause-goes_on c = λ metas others part turns there same goes.
    let r = (goal.at.returns-clause-goes_on c).After-begin_at in
    goes-begun metas others part turns c.args.index c.args.first_number c.args.self.now (after r) c.index_mut.result.now c.begin_at.new.self (begun r) there same refl c.args.self.now.writers.ok.0 goes

pub returns-clause-logged : goal.returns-clause-logged
returns-clause-logged c = λ most all.
    let r = (goal.at.returns-clause-logged c).After-begin_at in
    let is = begun r in
    subst (λ (l : List Writer). All (λ writer. logged_by writer ≡ most) l) (sym is.new_is)
    (All-set (λ (writer : Writer). logged_by writer ≡ most) c.args.self.now.writers.items c.args.index c.begin_at.new.self
    (c.begin_at.ensures.logged ∙ subst (λ (writer : Writer). logged_by writer ≡ most) (is.old_is c.index_mut.result.now) (all c.args.index c.index_mut.result.now is.within)) all)

pub returns-clause-keeps_to : goal.returns-clause-keeps_to
returns-clause-keeps_to c = λ config keeps.
    let r = (goal.at.returns-clause-keeps_to c).After-begin_at in
    keeps-begun config c.args.index c.args.first_number c.args.self.now (after r) refl c.requires (returns-clause-made c) (returns-clause-goes_on c) keeps
