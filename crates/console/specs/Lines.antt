-- What a line makes of all that the console holds between lines: the responder, the table of the cache with its sizes, its byte store, the browser, the domains
-- of the proxy and the out buffers.
-- Assumes nothing: these are definitions.
use Rattle.std.specs.Prelude.{ℕ, List, Bool, cond, ◌||◌, length, get_or, ltb, eqb}
use Rattle.console_table.specs.Table.{zeros}
use Rattle.console_text.specs.fields.Numbers.{field_at}
use Rattle.console_calls.specs.cache_calls.Lines.{is_cache_call, cache_after}
use Rattle.console_responder.specs.Forms.{is_responder_call}
use Rattle.console_responder.specs.Lines.{Responder, having, unstarted, responder_after}
use Rattle.console_browser.specs.Forms.{is_browser_call}
use Rattle.console_browser.specs.Lines.{Browsing, browsing, unbrowsed, browser_after}
use Rattle.console_proxy.specs.Lines.{is_proxy_call, no_domains, domains_after}
use Rattle.console.specs.declared.calls.Held.{Held}

-- what is held, with the store and the out buffers
pub record Console : Type 0 where
  pub held : Held
  pub store : List ℕ
  pub out : List ℕ
  pub unicast : List ℕ

-- before the first line: no responder has started, the table is 64 entries of zeros, with a slot for each, the browser is a blank one, and the proxy has no
-- domains
unfoldable pub held_at_first : Held
held_at_first = record { state = unstarted; table = zeros 64 65536; browser = unbrowsed; domains = no_domains }

-- after a call on the responder, one on the cache, one on the browser, and one on the proxy
abbrev pub by_responder : List ℕ → Console → Console
by_responder line c =
    let r : Responder = responder_after line (having c.held.state c.out c.unicast) in
    let held : Held = record { state = r.state; table = c.held.table; browser = c.held.browser; domains = c.held.domains } in
    record { held = held; store = c.store; out = r.out; unicast = r.unicast }

abbrev pub by_cache : List ℕ → Console → Console
by_cache line c = record {
  held = record { state = c.held.state; table = (cache_after line c.held.table c.store).table; browser = c.held.browser; domains = c.held.domains };
  store = (cache_after line c.held.table c.store).store;
  out = c.out;
  unicast = c.unicast;
}

abbrev pub by_browser : List ℕ → Console → Console
by_browser line c =
    let x : Browsing = browser_after line c.held.table c.store (browsing c.held.browser c.out) in
    let held : Held = record { state = c.held.state; table = c.held.table; browser = x.browser; domains = c.held.domains } in
    record { held = held; store = c.store; out = x.out; unicast = c.unicast }

abbrev pub by_proxy : List ℕ → Console → Console
by_proxy line c =
    let held : Held = record { state = c.held.state; table = c.held.table; browser = c.held.browser; domains = domains_after line c.held.domains } in
    record { held = held; store = c.store; out = c.out; unicast = c.unicast }

-- after a call, by its first word: those that hold nothing, and words that are no call, leave all
unfoldable pub after_call : List ℕ → Console → Console
after_call line c =
    cond (is_responder_call (field_at line 0)) (by_responder line c)
    (cond (is_cache_call (field_at line 0)) (by_cache line c)
    (cond (is_browser_call (field_at line 0)) (by_browser line c) (cond (is_proxy_call (field_at line 0)) (by_proxy line c) c)))

-- an empty line, a comment ('#', 35) and a line of more than 40,000 bytes are no call
abbrev pub is_no_call : List ℕ → Bool
is_no_call line = eqb (length line) 0 || (eqb (get_or line 0 0) 35 || ltb 40000 (length line))

-- after a line
unfoldable pub after_line : List ℕ → Console → Console
after_line line c = cond (is_no_call line) c (after_call line c)
