use Rattle.request_lang.proofs.ChannelLemmas.{list_channels}
use Rattle.request_lang.proofs.FootprintLemmas.{list_footprints}
use Rattle.render_run.proofs.prepare.read_requests.Goals as goal

pub returns-in-Ok-parse-clause-asked : goal.returns-in-Ok-parse-clause-asked
returns-in-Ok-parse-clause-asked g c = λ k d lt. record {
  channels = list_channels _ c.in-Ok-parse.requests.items c.in-Ok-parse.ensures.exact k d lt;
  footprint = list_footprints _ c.in-Ok-parse.requests.items c.in-Ok-parse.ensures.exact k d lt;
}
