-- Demands 1 and 2 of requests, from the verdicts of rules. Assumes nothing.
use mathlib.Core.Path.{sym, subst, ◌∙◌}
use Rattle.rules.specs.Returning.{Accepted}
use Rattle.rules.proofs.Verdicts.{exactly_then, accepted_then, done_then, refused_unchanged}
use Rattle.demands.specs.Answers.{RefusedExactly, RequestsRefused, RequestsFollow, HistoriesFollow}
use Rattle.demands.proofs.Heard.{heard_answered}
use Rattle.demands.proofs.Links.{history_ran}

pub requests_refused : RequestsRefused
requests_refused w a t heard =
    subst (RefusedExactly w a) (sym (heard_answered heard))
    (exactly_then w a, λ two. (refused_unchanged w a two).0, λ two. (refused_unchanged w a two).1)

pub requests_follow : RequestsFollow
requests_follow w a t heard accepted = heard_answered heard ∙ done_then w a ((accepted_then w a).0 (subst Accepted (heard_answered heard) accepted))

pub histories_follow : HistoriesFollow
histories_follow d w v es history = history_ran history
