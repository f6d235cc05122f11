use Rattle.session_model.specs.Lives.{account_in, steps_in}
use Rattle.pubsub_engine.specs.declared.session.Session.{Session}
use Rattle.pubsub_engine.proofs.Growths.{Refreshes, appended, appended-as, appended-keeps, appended-lives, appended-next, appended-session, appends-of, growth-of, there-next}
use Rattle.pubsub_engine.proofs.session.Session.append.Goals as goal

pub append-set-requires-clause-there : goal.append-set-requires-clause-there
append-set-requires-clause-there c = there-next c.args.self.now.config.now c.args.self.now.sets c.requires.may.session.sets c.requires.may.left

pub returns-clause-session : goal.returns-clause-session
returns-clause-session c =
    let old = c.args.self.now in
    let left = c.requires.may.left in
    let e = c.append-set.ensures in
    let refreshes : Refreshes old.config.now c.append-set.result old.round.publisher c.refresh_set.new.self = record {
      groups = c.refresh_set.ensures.groups;
      past = c.refresh_set.ensures.past;
      goes_on = c.refresh_set.ensures.goes_on;
      logs = c.refresh_set.ensures.logs;
      rest = c.refresh_set.ensures.rest;
    } in
    let appends = appends-of old c.append-set.new.self c.refresh_set.new.self c.append-set.result left e.metas e.made e.full e.count e.later refreshes in
    let new : Session = record old { sets = c.append-set.new.self; round = record old.round { publisher = c.refresh_set.new.self } } in
    appended-session old new c.append-set.result (growth-of old.sets left) c.requires.may.session appends

pub returns-clause-appended : goal.returns-clause-appended
returns-clause-appended c =
    let old = c.args.self.now in
    let left = c.requires.may.left in
    let e = c.append-set.ensures in
    let refreshes : Refreshes old.config.now c.append-set.result old.round.publisher c.refresh_set.new.self = record {
      groups = c.refresh_set.ensures.groups;
      past = c.refresh_set.ensures.past;
      goes_on = c.refresh_set.ensures.goes_on;
      logs = c.refresh_set.ensures.logs;
      rest = c.refresh_set.ensures.rest;
    } in
    let appends = appends-of old c.append-set.new.self c.refresh_set.new.self c.append-set.result left e.metas e.made e.full e.count e.later refreshes in
    let new : Session = record old { sets = c.append-set.new.self; round = record old.round { publisher = c.refresh_set.new.self } } in
    λ p steps stands. appended p steps old new c.append-set.result (growth-of old.sets left) c.requires.may appends stands

pub returns-clause-lives : goal.returns-clause-lives
returns-clause-lives c =
    let old = c.args.self.now in
    let left = c.requires.may.left in
    let e = c.append-set.ensures in
    let refreshes : Refreshes old.config.now c.append-set.result old.round.publisher c.refresh_set.new.self = record {
      groups = c.refresh_set.ensures.groups;
      past = c.refresh_set.ensures.past;
      goes_on = c.refresh_set.ensures.goes_on;
      logs = c.refresh_set.ensures.logs;
      rest = c.refresh_set.ensures.rest;
    } in
    let appends = appends-of old c.append-set.new.self c.refresh_set.new.self c.append-set.result left e.metas e.made e.full e.count e.later refreshes in
    let new : Session = record old { sets = c.append-set.new.self; round = record old.round { publisher = c.refresh_set.new.self } } in
    λ p life stands.
    appended-lives p life old new c.append-set.result stands (appended-as p (steps_in life) (account_in p life) old new c.append-set.result (growth-of old.sets left) c.requires.may appends stands.parts)

pub returns-clause-next : goal.returns-clause-next
returns-clause-next c =
    let old = c.args.self.now in
    let left = c.requires.may.left in
    let e = c.append-set.ensures in
    let refreshes : Refreshes old.config.now c.append-set.result old.round.publisher c.refresh_set.new.self = record {
      groups = c.refresh_set.ensures.groups;
      past = c.refresh_set.ensures.past;
      goes_on = c.refresh_set.ensures.goes_on;
      logs = c.refresh_set.ensures.logs;
      rest = c.refresh_set.ensures.rest;
    } in
    let appends = appends-of old c.append-set.new.self c.refresh_set.new.self c.append-set.result left e.metas e.made e.full e.count e.later refreshes in
    let new : Session = record old { sets = c.append-set.new.self; round = record old.round { publisher = c.refresh_set.new.self } } in
    appended-next old new c.append-set.result (growth-of old.sets left) appends

pub returns-clause-rest : goal.returns-clause-rest
returns-clause-rest c =
    let old = c.args.self.now in
    let left = c.requires.may.left in
    let e = c.append-set.ensures in
    let refreshes : Refreshes old.config.now c.append-set.result old.round.publisher c.refresh_set.new.self = record {
      groups = c.refresh_set.ensures.groups;
      past = c.refresh_set.ensures.past;
      goes_on = c.refresh_set.ensures.goes_on;
      logs = c.refresh_set.ensures.logs;
      rest = c.refresh_set.ensures.rest;
    } in
    let appends = appends-of old c.append-set.new.self c.refresh_set.new.self c.append-set.result left e.metas e.made e.full e.count e.later refreshes in
    let new : Session = record old { sets = c.append-set.new.self; round = record old.round { publisher = c.refresh_set.new.self } } in
    appended-keeps old new c.append-set.result (growth-of old.sets left) appends
