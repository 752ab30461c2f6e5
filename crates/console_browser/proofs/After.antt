-- What a line starts, and what is lent of the table. Assumes nothing.
use mathlib.Core.Path.{◌≡◌, ◌∙◌}
use mathlib.Core.List.{List}
use Prim.Native.Nat.{ℕ}
use lib.ListN.{length, take}
use Rattle.writer.specs.own_packets.Own.{laid_over}
use Rattle.browser.specs.Calls.{start_of, tick_of, ticked_packet, list_of}
use Rattle.capi_browser.specs.Numbers.{browser_of, started_numbers, ticked_numbers, listed_numbers}
use Rattle.capi_browser.specs.Labels.{service_of, exactly}
use Rattle.capi_browser.specs.declared.BrowserNumbers.{BrowserNumbers}
use Rattle.capi_browser.specs.declared.StartedNumbers.{StartedNumbers}
use Rattle.capi_browser.specs.declared.TickedNumbers.{TickedNumbers}
use Rattle.capi_browser.specs.declared.ListedNumbers.{ListedNumbers}
use Rattle.console_table.specs.Table.{least, lent_entries, lent_bytes}
use Rattle.console_table.specs.declared.Table.{Table}
use Rattle.console_table.proofs.Lent.{lent}
use Rattle.console_text.specs.fields.Numbers.{number_at}
use Rattle.console_text.specs.fields.Forms.{bytes_in}
use Rattle.console_browser.specs.Lines.{start_told}

-- what a line starts, from its fields
pub told : (line : List ℕ) (time draw refresh : ℕ) (service protocol domain : List ℕ) → time ≡ number_at line 1 → draw ≡ number_at line 2 → refresh ≡ number_at line 3
    → service ≡ bytes_in 20000 line 4 → protocol ≡ bytes_in 20000 line 5 → domain ≡ bytes_in 20000 line 6
    → (r : StartedNumbers) → r ≡ started_numbers (start_of (service_of service) (exactly 4 protocol) (exactly 5 domain) time draw refresh) → r ≡ start_told line
unfolding start_told
told line time draw refresh service protocol domain t-is d-is r-is s-is p-is o_is r is =
    is ∙ (λ i. started_numbers (start_of (service_of (s-is i)) (exactly 4 (p-is i)) (exactly 5 (o_is i)) (t-is i) (d-is i) (r-is i)))

-- what is lent of a table and its store
module _ (t : Table) (len : length t.entries ≡ 513) (store : List ℕ) (n m : ℕ) (n-is : n ≡ least t.count 513) (m-is : m ≡ least t.room (length store)) (b : BrowserNumbers) (time : ℕ) where
  pub lent_listed : (from : ℕ) (r : ListedNumbers) → r ≡ listed_numbers (list_of (browser_of b) time (take n t.entries) (take m store) from)
      → r ≡ listed_numbers (list_of (browser_of b) time (lent_entries t) (lent_bytes t store) from)
  lent_listed from r is = is ∙ lent t len store n m n-is m-is (λ es bytes. listed_numbers (list_of (browser_of b) time es bytes from))

  pub lent_ticked : (out : List ℕ) (r : TickedNumbers) (last : List ℕ)
      → (r ≡ ticked_numbers (tick_of (browser_of b) time (take n t.entries) (take m store) (length out))) × (last ≡ laid_over (ticked_packet (browser_of b) time (take n t.entries) (take m store) (length out)) out)
      → (r ≡ ticked_numbers (tick_of (browser_of b) time (lent_entries t) (lent_bytes t store) (length out))) × (last ≡ laid_over (ticked_packet (browser_of b) time (lent_entries t) (lent_bytes t store) (length out)) out)
  lent_ticked out r last is = (
    is.0 ∙ lent t len store n m n-is m-is (λ es bytes. ticked_numbers (tick_of (browser_of b) time es bytes (length out))),
    is.1 ∙ lent t len store n m n-is m-is (λ es bytes. laid_over (ticked_packet (browser_of b) time es bytes (length out)) out),
  )
