use Rattle.std.proofs.Common.{ap, subst, sym}
use Rattle.plan_layout.specs.Pipes.{TargetForm, target_view}
use Rattle.pipe_stages.specs.Nets.{IsTargetFor}
use Rattle.net_parts.proofs.AnswerLemmas.{if_so}
use Rattle.net_parts.proofs.target.target_of.Goals as goal

pub returns-in-Result-clause-is : goal.returns-in-Result-clause-is
returns-in-Result-clause-is c =
    if_so c.result_target.result (λ made holds labels labelled net for. subst (λ (form : TargetForm). IsTargetFor net c.args.own c.args.task form made) (sym (ap target_view c.in-Result.is))
    (holds net c.args.task)) c.result_target.ensures.is

pub returns-in-Cell-clause-is : goal.returns-in-Cell-clause-is
returns-in-Cell-clause-is c =
    if_so c.build_target.result (λ made holds labels labelled net for. subst (λ (form : TargetForm). IsTargetFor net c.args.own c.args.task form made) (sym (ap target_view c.in-Cell.is))
    (holds labels net for)) c.build_target.ensures.is

pub returns-in-Side-clause-is : goal.returns-in-Side-clause-is
returns-in-Side-clause-is c =
    if_so c.side_target.result (λ made holds labels labelled net for. subst (λ (form : TargetForm). IsTargetFor net c.args.own c.args.task form made) (sym (ap target_view c.in-Side.is))
    (holds c.args.own labels labelled net for)) c.side_target.ensures.is

pub returns-in-Readers-clause-is : goal.returns-in-Readers-clause-is
returns-in-Readers-clause-is c =
    if_so c.readers_target.result (λ made holds labels labelled net for. subst (λ (form : TargetForm). IsTargetFor net c.args.own c.args.task form made) (sym (ap target_view c.in-Readers.is))
    (holds c.args.own c.args.task labels labelled net for)) c.readers_target.ensures.is

pub returns-in-Takers-clause-is : goal.returns-in-Takers-clause-is
returns-in-Takers-clause-is c =
    if_so c.deal_target.result (λ made holds labels labelled net for. subst (λ (form : TargetForm). IsTargetFor net c.args.own c.args.task form made) (sym (ap target_view c.in-Takers.is))
    (holds c.args.own labels labelled net for)) c.deal_target.ensures.is
