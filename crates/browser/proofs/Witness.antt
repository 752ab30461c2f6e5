-- Calls to which the theorems apply, by evaluation. Assumes nothing.
use mathlib.Core.Path.{refl}
use native.Mathlib.Omega.{arith}
use Rattle.wire.specs.name_pieces.Pieces.{piece_at}
use Rattle.wire.specs.names.Names.{read_from, from_run, name_at, labels_fill}
use Rattle.wire.specs.case_folding.Fold.{same_name}
use Rattle.wire.specs.rdata.Rdata.{form_in}
use Rattle.wire.specs.expansion.Equal.{same_bytes}
use Rattle.wire.specs.Lists.{some}
use Rattle.wire.specs.labels.Counted.{starts}
use Rattle.own.specs.records.Setups.{is_letter, is_name_byte, all_name_bytes, some_letter, hyphens_apart, service_rule, service_fits, protocol_fits, domain_fits}
use Rattle.writer.specs.compression.Compression.{stands_at, place_of, cut_from, name_bytes, name_places}
use Rattle.writer.specs.Fit.{form_for}
use Rattle.writer.specs.Items.{put_name, data_bytes, data_places, put_fields}
use Rattle.writer.specs.own_packets.Packets.{packet_of}
use Rattle.cache.specs.entries.Entries.{is_of, live_of}
use Rattle.cache.specs.entries.Cache.{is_size, is_store_of}
use Rattle.cache.specs.laws.Counts.{any_from}
use Rattle.browser.specs.service.Service.{right_labels, service_name}
use Rattle.browser.specs.series.Series.{gap_after, series_at}
use Rattle.browser.specs.series.Spacing as spacing
use Rattle.browser.specs.refresh.Refresh.{may_ask, is_stale, refresh_due, query_due, sooner, soonest, next_query}
use Rattle.browser.specs.list.Listing.{is_shown, shows_too, is_listed, all_of, list_in}
use Rattle.browser.specs.known_answers.Known.{is_known, shown_ttl, answer_of, known_in, known_from}
use Rattle.browser.specs.query.Query.{fits, listed, packet_for, stop_for}
use Rattle.browser.specs.Calls as calls
use Rattle.browser.specs.Witness.{Witness}

pub witness : Witness
unfolding same_name labels_fill piece_at read_from from_run name_at form_in same_bytes some starts is_letter is_name_byte all_name_bytes some_letter hyphens_apart service_rule service_fits protocol_fits domain_fits stands_at place_of cut_from name_bytes name_places form_for put_name data_bytes data_places put_fields packet_of is_of live_of is_size is_store_of any_from right_labels service_name gap_after series_at spacing.asks may_ask is_stale refresh_due query_due sooner soonest next_query is_shown shows_too is_listed all_of list_in is_known shown_ttl answer_of known_in known_from fits listed packet_for stop_for calls.wrong_draws calls.wrong_browser calls.wrong_time calls.start_refusal calls.tick_refusal calls.blank calls.begun calls.start_of calls.is_due calls.resumed calls.asked calls.turn_of calls.ticked_packet calls.tick_of calls.next_due
witness = record {
  starts = refl;
  sound = record { labels = refl; draw = omega arith; refresh = omega arith; series = omega arith };
  ticks_pass = refl;
  lists = refl;
  dies = refl;
  idle = refl;
  waits = refl;
  lists_known = refl;
  series = refl;
  refreshes = refl;
  refresh_asks = refl;
  once = refl;
  truncated = (refl, (refl, refl));
  flags = refl;
  rest = (refl, (refl, refl));
}
