use Rattle.std.proofs.Common.{◌≡◌, ◌<◌, ◌++◌, length, sym, ◌∙◌, subst}
use Rattle.page_window.specs.Windows.{end_of}
use Rattle.exchange_client.specs.Fetches.{last_token, rest}
use Rattle.exchange_client.specs.Steps.{HasStepped}
use Rattle.exchange_client.proofs.FetchLemmas.{ok_weaker}
use Rattle.exchange_client.proofs.StepLemmas.{carries_on, stepped_empty, stepped_complete, on_ok}
use Rattle.exchange_client.proofs.fetch.Fetch.step.Goals as goal

pub returns-clause-carries : goal.returns-clause-carries
returns-clause-carries g c =
    ok_weaker (λ pages. rest c.begin-due.new.self ≡ pages ++ rest c.deliver.new.self) _ c.deliver.result (λ pages left. carries_on c.args.self.now c.deliver.new.self pages (sym c.begin-due.ensures.same.pages ∙ left)) c.deliver.ensures.rest

pub returns-clause-empty : goal.returns-clause-empty
returns-clause-empty g c =
    ok_weaker (λ pages. HasStepped c.begin-due.result c.begin-due.new.self pages c.deliver.new.self) _ c.deliver.result (λ pages s. stepped_empty c.args.self.now c.begin-due.new.self c.deliver.new.self c.begin-due.result pages c.begin-due.ensures.same c.begin-due.ensures.due c.deliver.ensures.gives s) c.deliver.ensures.step

pub returns-clause-complete : goal.returns-clause-complete
returns-clause-complete g c =
    on_ok (λ pages. HasStepped c.begin-due.result c.begin-due.new.self pages c.deliver.new.self) _ c.deliver.result (λ pages s. stepped_complete c.args.self.now c.begin-due.new.self c.deliver.new.self c.begin-due.result pages c.begin-due.ensures.same c.begin-due.ensures.due c.deliver.ensures.gives s) c.deliver.ensures.step

pub returns-clause-room : goal.returns-clause-room
returns-clause-room g c =
    on_ok (λ pages. HasStepped c.begin-due.result c.begin-due.new.self pages c.deliver.new.self) _ c.deliver.result
    (λ _ _. λ going none. subst (λ w. (length w.held < 32) × (end_of w < last_token)) (sym c.deliver.ensures.window) (c.begin-due.ensures.room going none)) c.deliver.ensures.step
