-- What is known of a browser that no refusal is for. Assumes nothing: these are definitions.
use Rattle.std.specs.Prelude.{◌≤◌, ◌≡◌, true}
use Rattle.claims.specs.Time.{last_kept}
use Rattle.browser.specs.declared.Browser.{Browser}
use Rattle.browser.specs.service.Service.{right_labels}

pub record Sound (b : Browser) : Type 0 where
  pub labels : right_labels b.service b.protocol b.domain ≡ true
  pub draw : b.draw ≤ 120
  pub refresh : b.refresh ≤ 20
  pub series : b.series ≤ last_kept
